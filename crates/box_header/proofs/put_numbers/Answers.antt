use Rattle.std.proofs.Common.{refl, ◌∙◌, arith}
use Rattle.std.proofs.lemmas.Slice.{put_mid-paste}
use Rattle.box_header.specs.PutLaws.{pasted}
use Rattle.box_header.proofs.put_numbers.Goals as goal

pub returns : goal.returns
returns c = put_mid-paste _ _ _ _ _ _ c.copy_from_slice.ensures.after (omega arith) refl ∙ pasted _ _ _ c.requires
