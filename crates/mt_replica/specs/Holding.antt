-- Working definitions: the operations that an editor offers to what holds them back, and what it notes of those that become ready.
use Rattle.std.specs.Prelude.{◌≡◌, ℕ, ◌+◌, ◌≤◌, Bool, true, false, cond, List, [], ◌∷◌}
use Rattle.std.specs.List.{sum_by}
use Rattle.mt_stamp.specs.Moment.{Moment, stamp_eq}
use Rattle.mt_op.specs.Operation.{Operation}
use Rattle.mt_items.specs.Noting.{MayFollow}
use Rattle.mt_holdback.specs.declared.hold_back.Offered.{Offered}
use Rattle.mt_holdback.specs.declared.hold_back.Offered.TheVariants as offer
use Rattle.mt_holdback.specs.HoldBack as holding
use Rattle.mt_holdback.specs.Value.{HoldBackValue}
use Rattle.mt_holdback.specs.Offering.{answer}
use Rattle.mt_holdback.specs.Ops.{op_rules}
use Rattle.mt_sessionview.specs.Session.{stamps_of}
use Rattle.mt_replica.specs.declared.taken.Taken.{Taken}
use Rattle.mt_replica.specs.declared.taken.Taken.TheVariants.{Already, Held, Applied}

-- ---- what operations are to what holds them back

-- all operations that were offered, those that were released and those that wait
abbrev pub all_offered : holding.Contents Operation → List Operation
all_offered kept = holding.offered op_rules kept

-- whether an operation of this stamp was offered
abbrev pub is_offered : holding.Contents Operation → Moment → Bool
is_offered kept stamp = holding.knows op_rules kept stamp

-- the operations that one more makes ready, by rising stamp
abbrev pub newly_released : holding.Contents Operation → Operation → List Operation
newly_released kept o = holding.newly_ready op_rules kept o

abbrev pub with_offered : holding.Contents Operation → Operation → holding.Contents Operation
with_offered kept o = holding.contents_with op_rules kept o

abbrev pub StampsRise : List Operation → Type 0
StampsRise ops = holding.KeysRise op_rules ops

abbrev pub offer_gives : holding.Contents Operation → Operation → Offered
offer_gives kept o = answer op_rules kept o

-- how many operations of a list have a stamp
abbrev pub stamp_count : Moment → List Operation → ℕ
stamp_count stamp ops = sum_by (λ (o : Operation). cond (stamp_eq stamp o.stamp) 1 0) ops

-- no stamp stands twice
abbrev pub HaveOwnStamps : List Operation → Type 0
HaveOwnStamps ops = (stamp : Moment) → stamp_count stamp ops ≤ 1

-- These operations were offered, and nothing has failed; the others are left.
pub record AreOffered (waiting : HoldBackValue Operation) (left ops : List Operation) : Type 0 where
  pub whole : waiting.failed ≡ false
  pub offered : (f : Operation → ℕ) → sum_by f (all_offered waiting.contents) + sum_by f left ≡ sum_by f ops

-- ---- what is noted of them

-- These operations, noted one after another.
abbrev pub noted_after : List Operation → List Operation → List Operation
noted_after noted [] = noted
noted_after noted (o ∷ ops) = noted_after (o ∷ noted) ops

-- Each of these may be noted after those before it.
abbrev pub MayAllFollow : List Operation → List Operation → Type 0
MayAllFollow noted [] = Unit {0}
MayAllFollow noted (o ∷ ops) = MayFollow noted o × MayAllFollow (o ∷ noted) ops

abbrev pub is_held : Offered → Bool
is_held offer.Held = true
is_held (offer.Ready first) = false

-- what a take answers, from what the offer answered and what became ready
abbrev pub TakenGives : {A : Type 0} → Offered → List Operation → Taken A → Type 0
TakenGives offered newly Already = ⊥
TakenGives offered newly Held = is_held offered ≡ true
TakenGives offered newly (Applied stamps) = (is_held offered ≡ false) × (stamps ≡ stamps_of newly)
