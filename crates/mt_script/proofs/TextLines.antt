-- The lines of a text.
use Rattle.std.proofs.Common.{◌≡◌, ◌≢◌, ℕ, zero, suc, ◌<◌, List, [], ◌∷◌, ◌++◌, length, get_or, if◌then◌else◌, false, ◌==◌, refl, ap, ◌∙◌, arith}
use mathlib.Core.List.{append_assoc}
use Rattle.mt_script.specs.Laws.{IsOneLine, ended, LinesAreRead}
use Rattle.base_text.specs.Cutting.{lines, newline}
use Rattle.base_text.proofs.Cuts.{one_line, first_line}

holds_none : (line : List ℕ) → IsOneLine line → (i : ℕ) → i < length line → get_or line i 0 ≢ newline
holds_none [] none i within = absurd (omega arith)
holds_none (b ∷ bs) none zero within = none.0
holds_none (b ∷ bs) none (suc i) within = holds_none bs none.1 i (omega arith)

last_line : (last : List ℕ) → IsOneLine last → lines last ≡ (if length last == 0 then [] else last ∷ [])
last_line [] none = refl
last_line (b ∷ bs) none =
    let some : (length (b ∷ bs) == 0) ≡ false = grind arith in
    rw some (one_line (b ∷ bs) (omega arith) (holds_none (b ∷ bs) none))

pub lines_are_read : LinesAreRead
lines_are_read [] last each none = last_line last none
lines_are_read (line ∷ ls) last each none =
    let split : ended (line ∷ ls) ++ last ≡ line ++ newline ∷ (ended ls ++ last) =
    append_assoc (line ++ newline ∷ []) (ended ls) last ∙ append_assoc line (newline ∷ []) (ended ls ++ last) in
    ap lines split ∙ first_line line (ended ls ++ last) (holds_none line each.0) ∙ ap (λ (l : List (List ℕ)). line ∷ l) (lines_are_read ls last each.1 none)
