-- What a line asks for.
use Rattle.std.proofs.Common.{◌≡◌, ℕ, List, Option, None, sym, ap}
use Rattle.std.specs.Str.{is_utf8, IsUtf8}
use Rattle.std.proofs.lemmas.Str.{is_utf8-from_IsUtf8, IsUtf8-from_is_utf8}
use Rattle.mt_replica.specs.Edit.{Edit}
use Rattle.mt_script.specs.Forms.{Items, said, asked}
use Rattle.mt_script.proofs.Options.{failed}

-- a line that is UTF-8 asks for what it says
pub asks_what_it_says : (items : Items) (line text : List ℕ) → IsUtf8 line → text ≡ line → asked items line ≡ said items text
asks_what_it_says items line text utf8 same = rw (is_utf8-from_IsUtf8 line utf8) (ap (said items) (sym same))

-- any other line asks for nothing
pub asks_nothing : (items : Items) (line : List ℕ) → (IsUtf8 line → ⊥) → ◌≡◌ {A = Option Edit} None (asked items line)
asks_nothing items line never = rw (failed (is_utf8 line) (λ is. never (IsUtf8-from_is_utf8 line is)))
