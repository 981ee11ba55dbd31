-- Which operations may be noted after which.
use Rattle.std.specs.Prelude.{◌≡◌, Bool, true, false, List, [], ◌∷◌, if◌then◌else◌}
use Rattle.std.specs.List.{list_any, list_all}
use Rattle.mt_stamp.specs.Moment.{Moment, stamp_eq}
use Rattle.mt_op.specs.declared.need.Need.{Need}
use Rattle.mt_op.specs.Operation.{Operation}
use Rattle.mt_op.specs.Needs.{needs, meets}
use Rattle.mt_op.specs.Writes.{subject}

-- whether an operation of this stamp is among these
abbrev pub is_noted : List Operation → Moment → Bool
is_noted ops stamp = list_any (λ (o : Operation). stamp_eq stamp o.stamp) ops

-- whether a need is met by one of these
abbrev pub is_need_met : List Operation → Need → Bool
is_need_met ops need = list_any (meets need) ops

-- whether each need of an operation is
abbrev pub are_needs_met : List Operation → Operation → Bool
are_needs_met ops o = list_all (is_need_met ops) (needs o)

-- An operation may be noted after these: its stamp is new, and they meet its needs (delivery in causal order: INRIA
-- RR-7506, operation-based objects).
pub record MayFollow (ops : List Operation) (o : Operation) : Type 0 where
  pub fresh : is_noted ops o.stamp ≡ false
  pub met : are_needs_met ops o ≡ true

-- Each operation was noted after those that it needs, the last one standing first.
abbrev pub AreNoted : List Operation → Type 0
AreNoted [] = Unit {0}
AreNoted (o ∷ ops) = MayFollow ops o × AreNoted ops

-- an operation on an item that was noted before it
pub record Concerns (ops : List Operation) (item : Moment) (o : Operation) : Type 0 where
  pub item_is : subject o.stamp o.act ≡ item
  pub noted : is_noted ops item ≡ true
  pub follows : MayFollow ops o

-- One pass over operations: each whose needs are met by those noted so far is noted, and the others are passed over.
abbrev pub one_pass : List Operation → List Operation → List Operation
one_pass noted [] = noted
one_pass noted (o ∷ rest) = if are_needs_met noted o then one_pass (o ∷ noted) rest else one_pass noted rest
