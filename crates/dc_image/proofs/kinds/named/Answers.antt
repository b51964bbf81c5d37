use Rattle.dc_image.proofs.OtherWords.{other_word}
use Rattle.dc_image.proofs.kinds.named.Goals as goal

pub returns-in_default : goal.returns-in_default
returns-in_default c =
    let other = c.in_default in
    rw (
      other_word _ _ other.not-ram,
      other_word _ _ other.not-frame,
      other_word _ _ other.not-port,
      other_word _ _ other.not-signal,
      other_word _ _ other.not-sendend,
      other_word _ _ other.not-recvend,
      other_word _ _ other.not-line,
    )
