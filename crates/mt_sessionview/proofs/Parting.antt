-- A session that is made of the parts that operations show.
use Rattle.std.proofs.Common.{◌≡◌, ℕ, List, Result, Ok, Err, ◌∙◌}
use Rattle.std.specs.Prelude.{IfOk}
use Rattle.mt_stamp.specs.Moment.{Moment}
use Rattle.mt_op.specs.Operation.{Operation}
use Rattle.mt_items.specs.declared.cells.MarkerCells.{MarkerCells}
use Rattle.mt_sessionview.specs.Content.{Track, Content}
use Rattle.mt_sessionview.specs.Parts.{session_in, ArePartsOf, ArePartsOfSession}
use Rattle.mt_sessionview.specs.Session.{session_of}

pub made_of_parts : {A F : Type 0} (ops : List Operation) (result : Result Content F) (tracks : List Track) (cells : List (Moment × MarkerCells A)) (held : ℕ) → ArePartsOfSession ops tracks cells held
    → IfOk result (λ session. (items : List Operation) → ArePartsOf items tracks cells → session ≡ session_in items held) → IfOk result (λ session. session ≡ session_of ops)
made_of_parts ops (Ok session) tracks cells held parts made = made parts.0 parts.1.0 ∙ parts.1.1
made_of_parts ops (Err fault) tracks cells held parts made = made
