-- What `==` tells of operations and their parts.
use Rattle.std.proofs.Common.{◌≡◌, ℕ, Bool, true, false, List, [], ◌∷◌, eqb, ◌&&◌, refl, sym, ap, ◌∙◌, subst}
use Rattle.std.proofs.lemmas.Bool.{eqb-true, eq-eqb, false≢true}
use Rattle.std.proofs.lemmas.Cmp.{nat_list_eq_equiv}
use Rattle.std.specs.Prelude.{IsTrue, ◌↔◌, Option, Some, None}
use Rattle.std.specs.Option.{option_eq}
use Rattle.std.specs.Cmp.Lexicographic.{pointwise}
use Rattle.std.proofs.Math.Bool.{beq}
use Rattle.std.specs.declared.alloc.Allocator.{Ghosts}
use Rattle.mt_stamp.specs.StampOrder.{Stamp}
use Rattle.mt_op.specs.declared.body.Body.{Body as BodyFields}
use Rattle.mt_op.specs.declared.body.Body.TheVariants as body
use Rattle.mt_op.specs.contracts.body.BodyPartialEq.TheImpl as body_eq
use Rattle.mt_op.specs.contracts.op.OpPartialEq.TheImpl as op_eq
use Rattle.mt_op.specs.Gain.{Gain}
use Rattle.mt_op.specs.OpValue.{Body, AddTrack, MoveTrack, AddClip, MoveClip, TrimClip, SetGain, SetMute, Remove, Restore, AddMarker, MoveMarker, Retitle, SetFade, SetMarkerLength, Op}
use Rattle.mt_op.specs.Bodies.{act_of, body_of}
use Rattle.mt_op.specs.Needs.{stamp_eq}
use Rattle.mt_op.proofs.Needs.{and_first, and_second, stamp_eq-true}

-- ---- bytes

pub bytes_same : (a b : List ℕ) → pointwise eqb a b ≡ true → a ≡ b
bytes_same [] [] e = refl
bytes_same [] (y ∷ b) e = absurd cc
bytes_same (x ∷ a) [] e = absurd cc
bytes_same (x ∷ a) (y ∷ b) e = let first = eqb-true x y (and_first _ _ e) in let rest = bytes_same a b (and_second _ _ e) in λ i. first i ∷ rest i

pub bytes_itself : (a : List ℕ) → pointwise eqb a a ≡ true
bytes_itself a = nat_list_eq_equiv.refl a

-- ---- stamps

stamp_itself : (a : Stamp) → stamp_eq a a ≡ true
stamp_itself a = rw (eq-eqb a.clock a.clock refl, eq-eqb a.replica.0 a.replica.0 refl, eq-eqb a.seq a.seq refl) refl

stamps_same : (a b : List Stamp) → pointwise stamp_eq a b ≡ true → a ≡ b
stamps_same [] [] e = refl
stamps_same [] (y ∷ b) e = absurd cc
stamps_same (x ∷ a) [] e = absurd cc
stamps_same (x ∷ a) (y ∷ b) e = let first = stamp_eq-true x y (and_first _ _ e) in let rest = stamps_same a b (and_second _ _ e) in λ i. first i ∷ rest i

stamps_itself : (a : List Stamp) → pointwise stamp_eq a a ≡ true
stamps_itself [] = refl
stamps_itself (x ∷ a) = rw (stamp_itself x) (stamps_itself a)

-- ---- places, gains and flags

abbrev place_test : Option Stamp → Option Stamp → Bool
place_test = option_eq stamp_eq

places_same : (a b : Option Stamp) → place_test a b ≡ true → a ≡ b
places_same (Some a) (Some b) e = ap (λ (s : Stamp). Some s) (stamp_eq-true a b e)
places_same None None e = refl
places_same _ _ e = absurd cc

place_itself : (a : Option Stamp) → place_test a a ≡ true
place_itself (Some a) = stamp_itself a
place_itself None = refl

ratio_same : (a b : Gain) → eqb a.num b.num && eqb a.den b.den ≡ true → a ≡ b
ratio_same a b e = let nums = eqb-true a.num b.num (and_first _ _ e) in let dens = eqb-true a.den b.den (and_second _ _ e) in λ i. record { num = nums i; den = dens i }

bool_same : (a b : Bool) → beq a b ≡ true → a ≡ b
bool_same true true e = refl
bool_same false false e = refl
bool_same _ _ e = absurd cc

bool_itself : (a : Bool) → beq a a ≡ true
bool_itself true = refl
bool_itself false = refl

-- ---- bodies and operations

module _ (A : denote.RattleType.RattleType) (alloc : Ghosts A.Denot) (d e : mir.Syntax.Dict) where
  abbrev pub body_test : BodyFields A.Denot → BodyFields A.Denot → Bool
  body_test = (body_eq.ghosts A alloc d e).eq

  abbrev pub op_test : Op → Op → Bool
  op_test = (op_eq.ghosts A alloc d e).eq

  pub body_same : (a b : BodyFields A.Denot) → body_test a b ≡ true → act_of a ≡ act_of b
  body_same (body.AddTrack after title) (body.AddTrack after' title') h =
      let places = places_same after after' (and_first _ _ h) in let titles = bytes_same title title' (and_second _ _ h) in λ i. AddTrack (places i) (titles i)
  body_same (body.MoveTrack track after) (body.MoveTrack track' after') h =
      let tracks = stamp_eq-true track track' (and_first _ _ h) in let places = places_same after after' (and_second _ _ h) in λ i. MoveTrack (tracks i) (places i)
  body_same (body.AddClip source track at offset len) (body.AddClip source' track' at' offset' len') h =
      let sources = bytes_same source.0 source'.0 (and_first _ _ h) in
      let from_track = and_second _ _ h in let tracks = stamp_eq-true track track' (and_first _ _ from_track) in
      let from_at = and_second _ _ from_track in let places = eqb-true at at' (and_first _ _ from_at) in
      let from_offset = and_second _ _ from_at in let offsets = eqb-true offset offset' (and_first _ _ from_offset) in
      let lens = eqb-true len len' (and_second _ _ from_offset) in
      λ i. AddClip (record { 0 = sources i }) (tracks i) (places i) (offsets i) (lens i)
  body_same (body.MoveClip clip track at) (body.MoveClip clip' track' at') h =
      let clips = stamp_eq-true clip clip' (and_first _ _ h) in
      let from_track = and_second _ _ h in let tracks = stamp_eq-true track track' (and_first _ _ from_track) in
      let places = eqb-true at at' (and_second _ _ from_track) in
      λ i. MoveClip (clips i) (tracks i) (places i)
  body_same (body.TrimClip clip offset len) (body.TrimClip clip' offset' len') h =
      let clips = stamp_eq-true clip clip' (and_first _ _ h) in
      let from_offset = and_second _ _ h in let offsets = eqb-true offset offset' (and_first _ _ from_offset) in
      let lens = eqb-true len len' (and_second _ _ from_offset) in
      λ i. TrimClip (clips i) (offsets i) (lens i)
  body_same (body.SetGain item gain) (body.SetGain item' gain') h =
      let items = stamp_eq-true item item' (and_first _ _ h) in let gains = ratio_same gain gain' (and_second _ _ h) in λ i. SetGain (items i) (gains i)
  body_same (body.SetMute item on) (body.SetMute item' on') h =
      let items = stamp_eq-true item item' (and_first _ _ h) in let ons = bool_same on on' (and_second _ _ h) in λ i. SetMute (items i) (ons i)
  body_same (body.Remove item tags) (body.Remove item' tags') h =
      let items = stamp_eq-true item item' (and_first _ _ h) in let lists = stamps_same tags tags' (and_second _ _ h) in λ i. Remove (items i) (lists i)
  body_same (body.Restore item) (body.Restore item') h =
      let items = stamp_eq-true item item' h in λ i. Restore (items i)
  body_same (body.AddMarker at title) (body.AddMarker at' title') h =
      let places = eqb-true at at' (and_first _ _ h) in let titles = bytes_same title title' (and_second _ _ h) in λ i. AddMarker (places i) (titles i)
  body_same (body.MoveMarker marker at) (body.MoveMarker marker' at') h =
      let markers = stamp_eq-true marker marker' (and_first _ _ h) in let places = eqb-true at at' (and_second _ _ h) in λ i. MoveMarker (markers i) (places i)
  body_same (body.Retitle item title) (body.Retitle item' title') h =
      let items = stamp_eq-true item item' (and_first _ _ h) in let titles = bytes_same title title' (and_second _ _ h) in λ i. Retitle (items i) (titles i)
  body_same (body.SetFade clip fade_in fade_out) (body.SetFade clip' fade_in' fade_out') h =
      let clips = stamp_eq-true clip clip' (and_first _ _ h) in
      let from_in = and_second _ _ h in let ins = eqb-true fade_in fade_in' (and_first _ _ from_in) in
      let outs = eqb-true fade_out fade_out' (and_second _ _ from_in) in
      λ i. SetFade (clips i) (ins i) (outs i)
  body_same (body.SetMarkerLength marker len) (body.SetMarkerLength marker' len') h =
      let markers = stamp_eq-true marker marker' (and_first _ _ h) in let lens = eqb-true len len' (and_second _ _ h) in λ i. SetMarkerLength (markers i) (lens i)
  body_same _ _ h = absurd (false≢true h)

  body_itself : (a : BodyFields A.Denot) → body_test a a ≡ true
  body_itself (body.AddTrack after title) = rw (place_itself after, bytes_itself title) refl
  body_itself (body.MoveTrack track after) = rw (stamp_itself track, place_itself after) refl
  body_itself (body.AddClip source track at offset len) = rw (bytes_itself source.0, stamp_itself track, eq-eqb at at refl, eq-eqb offset offset refl, eq-eqb len len refl) refl
  body_itself (body.MoveClip clip track at) = rw (stamp_itself clip, stamp_itself track, eq-eqb at at refl) refl
  body_itself (body.TrimClip clip offset len) = rw (stamp_itself clip, eq-eqb offset offset refl, eq-eqb len len refl) refl
  body_itself (body.SetGain item gain) = rw (stamp_itself item, eq-eqb gain.num gain.num refl, eq-eqb gain.den gain.den refl) refl
  body_itself (body.SetMute item on) = rw (stamp_itself item, bool_itself on) refl
  body_itself (body.Remove item tags) = rw (stamp_itself item, stamps_itself tags) refl
  body_itself (body.Restore item) = stamp_itself item
  body_itself (body.AddMarker at title) = rw (eq-eqb at at refl, bytes_itself title) refl
  body_itself (body.MoveMarker marker at) = rw (stamp_itself marker, eq-eqb at at refl) refl
  body_itself (body.Retitle item title) = rw (stamp_itself item, bytes_itself title) refl
  body_itself (body.SetFade clip fade_in fade_out) = rw (stamp_itself clip, eq-eqb fade_in fade_in refl, eq-eqb fade_out fade_out refl) refl
  body_itself (body.SetMarkerLength marker len) = rw (stamp_itself marker, eq-eqb len len refl) refl

  body_back : (a : BodyFields A.Denot) → body_of (act_of a) ≡ a
  body_back (body.AddTrack after title) = refl
  body_back _ = refl

  act_back : (a : Body) → act_of {A = A.Denot} (body_of a) ≡ a
  act_back (AddTrack after title) = refl
  act_back _ = refl

  -- `==` of bodies tells whether they say the same
  pub body_decides : (a b : BodyFields A.Denot) (r : Bool) → r ≡ body_test a b → IsTrue r ↔ (act_of a ≡ act_of b)
  body_decides a b r is = (
    λ h. body_same a b (sym is ∙ h),
    λ h. is ∙ subst (λ (c : BodyFields A.Denot). body_test a c ≡ true) (sym (body_back a) ∙ ap (body_of {A = A.Denot}) h ∙ body_back b) (body_itself a),
  )

  op_same : (a b : Op) → op_test a b ≡ true → a ≡ b
  op_same a b h =
      let stamps = stamp_eq-true a.stamp b.stamp (and_first _ _ h) in
      let acts = sym (act_back a.act) ∙ body_same (body_of a.act) (body_of b.act) (and_second _ _ h) ∙ act_back b.act in
      λ i. record { stamp = stamps i; act = acts i }

  op_itself : (a : Op) → op_test a a ≡ true
  op_itself a = rw (eq-eqb a.stamp.clock a.stamp.clock refl, eq-eqb a.stamp.replica.0 a.stamp.replica.0 refl, eq-eqb a.stamp.seq a.stamp.seq refl, body_itself (body_of a.act)) refl

  -- `==` of operations tells whether they are equal
  pub op_decides : (a b : Op) (r : Bool) → r ≡ op_test a b → IsTrue r ↔ (a ≡ b)
  op_decides a b r is = (λ h. op_same a b (sym is ∙ h), λ h. is ∙ subst (λ (c : Op). op_test a c ≡ true) h (op_itself a))
