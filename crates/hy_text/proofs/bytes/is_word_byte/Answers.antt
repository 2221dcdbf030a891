-- The table is held against the definition at each byte, by computing.
use Rattle.std.proofs.Common.{get_or, not, nat_eq, refl, arith}
use Rattle.std.proofs.lemmas.Bool.{agree_below_at}
use Rattle.hy_text.specs.Bytes.{is_word_byte}
use Rattle.hy_text.specs.declared.bytes.TheConstants.{WORD_BYTES}
use Rattle.hy_text.proofs.bytes.is_word_byte.Goals as goal

pub returns : goal.returns
returns c =
    agree_below_at (λ b. not (nat_eq (get_or WORD_BYTES b 0) 44)) is_word_byte 256 c.args.b refl
    (omega arith)
