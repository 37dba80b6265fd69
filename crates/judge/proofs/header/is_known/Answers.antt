use Rattle.std.proofs.Common.{rules}
use Rattle.model.specs.KnownLaws.{knows_none}
use Rattle.judge.proofs.header.is_known.Goals as goal

pub returns-else-vm-lt-VMS : goal.returns-else-vm-lt-VMS
returns-else-vm-lt-VMS c = rw (knows_none _ _ c.requires c.if-vm-lt-VMS.false) (search rules)
