use Rattle.std.proofs.Common.{rules}
use Rattle.pages.specs.Laws.{table_entry}
use Rattle.pages.proofs.Finds.{table_rows}
use Rattle.pages.proofs.table.PageStoreReadable.stamp.Goals as goal

pub returns-in_err-row : goal.returns-in_err-row
returns-in_err-row c = search (rules, table_rows)

pub returns : goal.returns
returns c = search (rules, table_rows, table_entry)
