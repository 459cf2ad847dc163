use borrow.Author.Tests.{lt-ltb}
use Rattle.iebus_dump.proofs.Tables.{name_at}
use Rattle.iebus_dump.proofs.columns.name.Goals as goal

pub returns-else-given-lt4 : goal.returns-else-given-lt4
returns-else-given-lt4 c =
    rw (lt-ltb 3 c.args.given c.if-given-lt4.false) (name_at _ _ c.requires)
