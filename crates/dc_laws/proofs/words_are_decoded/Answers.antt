use Rattle.dc_base.proofs.WordLaws.{decode-encode}
use Rattle.dc_laws.proofs.words_are_decoded.Goals as goal

pub returns : goal.returns
returns c = decode-encode
