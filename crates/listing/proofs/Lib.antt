mod LineByLine
