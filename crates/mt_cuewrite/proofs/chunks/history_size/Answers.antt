use Rattle.std.proofs.Common.{ℕ, length, sym, ap, ◌∙◌}
use Rattle.std.specs.Fmt.{decimal}
use Rattle.mt_cuewrite.specs.File.{channels_word}
use Rattle.mt_cuewrite.proofs.Sizing.{length-history}
use Rattle.mt_cuewrite.proofs.chunks.history_size.Goals as goal

pub returns-clause-value : goal.returns-clause-value
returns-clause-value c =
    let rate = c.decimal_size.ensures.value ∙ ap (λ (n : ℕ). length (decimal n)) c.rate.ensures.value in
    let bits = c.decimal_size-2.ensures.value ∙ ap (λ (n : ℕ). length (decimal n)) (c.from.ensures ∙ c.bits.ensures.value) in
    let word = ap length (c.channels_word.ensures ∙ ap channels_word c.channels.ensures.value) in
    rw (rate, bits, word) (sym (length-history c.args.format))
