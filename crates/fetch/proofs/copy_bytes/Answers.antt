use Rattle.std.proofs.Common.{rules}
use Rattle.fetch.proofs.Copies.{byte_more}
use Rattle.fetch.proofs.copy_bytes.Goals as goal

-- one more byte is copied
pub loop-i-preserved : goal.loop-i-preserved
loop-i-preserved c = search (rules, byte_more)
