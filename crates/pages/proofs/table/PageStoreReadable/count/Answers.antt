use Rattle.std.proofs.Common.{rules}
use Rattle.pages.proofs.Finds.{table_rows}
use Rattle.pages.proofs.table.PageStoreReadable.count.Goals as goal

pub returns : goal.returns
returns c = search (rules, table_rows)
