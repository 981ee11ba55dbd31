-- What links spell, and what they spell after a change.
use Rattle.std.proofs.Common.{◌≡◌, ◌≢◌, ℕ, zero, suc, ◌<◌, ◌≤◌, Bool, true, false, cond, ◌||◌, List, [], ◌∷◌, ◌++◌, length, get_or, set, eqb, eq-eqb, Option, Some, None, refl, sym, ap, ◌∙◌, subst, arith, true≢false, get_or-set_other, get_or-set_same}
use Rattle.std.specs.List.{AllByRecursion, IsDistinct, list_any}
use Rattle.std.proofs.lemmas.Bool.{eqb-true}
use Rattle.std.proofs.lemmas.List.{length-set, append-nil, append_assoc}
use Rattle.std.proofs.lemmas.Option.{get_or_from_slice_get, slice_get_read}
use Rattle.std.proofs.lemmas.Map.Steps.{length-le_from_distinct_below}
use Rattle.mt_tracklist.specs.Chain.{has, put_after}
use Rattle.mt_tracklist.specs.Links.{spelled, Spells, IsChain}

abbrev Links : Type 0
Links = List (Option ℕ)

-- tests of places

eqb-turned : (a b : ℕ) → eqb a b ≡ false → eqb b a ≡ false
eqb-turned a b other = by (eqb b a) refl
  where
    by : (t : Bool) → eqb b a ≡ t → t ≡ false
    by false e = refl
    by true e = absurd (true≢false (sym (eq-eqb a b (sym (eqb-true b a e))) ∙ other))

pub unlike : (a b : ℕ) → eqb a b ≡ false → a ≢ b
unlike a b other same = true≢false (sym (eq-eqb a b same) ∙ other)

pub neither_first : (a b : Bool) → (a || b) ≡ false → a ≡ false
neither_first true b e = e
neither_first false b e = refl

pub neither_second : (a b : Bool) → (a || b) ≡ false → b ≡ false
neither_second true b e = absurd (true≢false e)
neither_second false b e = e

either_second : (a b : Bool) → a ≡ false → (a || b) ≡ true → b ≡ true
either_second true b fails e = absurd (true≢false fails)
either_second false b fails e = e

-- none of a list is a place that it has not
none_is : (items : List ℕ) (place : ℕ) → has items place ≡ false → AllByRecursion (λ x. eqb place x ≡ false) items
none_is [] place lacks = tt
none_is (x ∷ xs) place lacks = (neither_first (eqb place x) (has xs place) lacks, none_is xs place (neither_second (eqb place x) (has xs place) lacks))

lacks_from_none : (items : List ℕ) (place : ℕ) → AllByRecursion (λ x. eqb place x ≡ false) items → has items place ≡ false
lacks_from_none [] place none = refl
lacks_from_none (x ∷ xs) place none = rw none.0 (lacks_from_none xs place none.1)

-- what is spelled

pub spelled_none : (n : ℕ) (next : Links) → spelled n next None ≡ []
spelled_none zero next = refl
spelled_none (suc n) next = refl

pub spelled_is : (n : ℕ) (next : Links) (start : Option ℕ) (items : List ℕ) → Spells next start items → length items ≤ n → spelled n next start ≡ items
spelled_is n next start [] spells far = ap (spelled n next) spells ∙ spelled_none n next
spelled_is zero next start (x ∷ xs) spells far = absurd (omega arith)
spelled_is (suc n) next start (x ∷ xs) spells far =
    ap (spelled (suc n) next) spells.0 ∙ ap (λ (ys : List ℕ). x ∷ ys) (spelled_is n next (get_or next x None) xs spells.2 (omega arith))

pub spelled_below : (next : Links) (start : Option ℕ) (items : List ℕ) → Spells next start items → (q : ℕ) → list_any (eqb q) items ≡ true → q < length next
spelled_below next start [] spells q there = absurd (true≢false (sym there))
spelled_below next start (x ∷ xs) spells q there = by (eqb q x) refl there (spelled_below next (get_or next x None) xs spells.2 q)
  where
    by : (t : Bool) → eqb q x ≡ t → (t || list_any (eqb q) xs) ≡ true → (list_any (eqb q) xs ≡ true → q < length next) → q < length next
    by true same h rest = let is : q ≡ x = eqb-true q x same in let within = spells.1 in omega arith
    by false other h rest = rest h

-- Links that spell a list with no place twice are a chain of that list.
pub chain_of : (next : Links) (first : Option ℕ) (items : List ℕ) → Spells next first items → IsDistinct eqb items → spelled (length next) next first ≡ items
chain_of next first items spells apart = spelled_is (length next) next first items spells (length-le_from_distinct_below items (length next) apart (spelled_below next first items spells))

pub is_chain : (next : Links) (first : Option ℕ) (items : List ℕ) → Spells next first items → IsDistinct eqb items → IsChain next first
is_chain next first items spells apart =
    let is = sym (chain_of next first items spells apart) in
    record { spells = subst (Spells next first) is spells; apart = subst (IsDistinct eqb) is apart }

-- after a change of links

-- a link of a place that is not in the list says nothing
pub spells_set : (next : Links) (start : Option ℕ) (items : List ℕ) (place : ℕ) (link : Option ℕ) → has items place ≡ false → Spells next start items → Spells (set next place link) start items
spells_set next start [] place link lacks spells = spells
spells_set next start (x ∷ xs) place link lacks spells =
    let other : x ≢ place = λ same. unlike place x (neither_first (eqb place x) (has xs place) lacks) (sym same) in
    let kept : get_or (set next place link) x None ≡ get_or next x None = get_or-set_other next place x link None other in
    let rest = spells_set next (get_or next x None) xs place link (neither_second (eqb place x) (has xs place) lacks) spells.2 in
    (spells.0, omega (arith, spells.1, length-set next place link), subst (λ (o : Option ℕ). Spells (set next place link) o xs) (sym kept) rest)

pub spells_first : (next : Links) (start : Option ℕ) (items : List ℕ) (place : ℕ) → place < length next → has items place ≡ false → Spells next start items
    → Spells (set next place start) (Some place) (place ∷ items)
spells_first next start items place within lacks spells =
    (refl, omega (arith, length-set next place start), subst (λ (o : Option ℕ). Spells (set next place start) o items) (sym (get_or-set_same next place start None within)) (spells_set next start items place start lacks spells))

module _ (next : Links) (before place : ℕ) (within : place < length next) where
  -- the links with place put right after before
  abbrev pub relinked : Links
  relinked = set (set next place (get_or next before None)) before (Some place)

  as_long : length relinked ≡ length next
  as_long = omega (arith, length-set (set next place (get_or next before None)) before (Some place), length-set next place (get_or next before None))

  link_other : (x : ℕ) → x ≢ place → x ≢ before → get_or relinked x None ≡ get_or next x None
  link_other x not_place not_before =
      get_or-set_other (set next place (get_or next before None)) before x (Some place) None not_before ∙ get_or-set_other next place x (get_or next before None) None not_place

  spells_there : (start : Option ℕ) (xs : List ℕ) → before < length next → has (before ∷ xs) place ≡ false → IsDistinct eqb (before ∷ xs) → start ≡ Some before → Spells next (get_or next before None) xs
      → Spells relinked start (before ∷ place ∷ xs)
  unfolding IsDistinct
  spells_there start xs in_range lacks apart start_is spells =
      let apart_places : place ≢ before = unlike place before (neither_first (eqb place before) (has xs place) lacks) in
      let linked : get_or relinked before None ≡ Some place =
      get_or-set_same (set next place (get_or next before None)) before (Some place) None (omega (arith, length-set next place (get_or next before None))) in
      let onward : get_or relinked place None ≡ get_or next before None =
      get_or-set_other (set next place (get_or next before None)) before place (Some place) None apart_places ∙ get_or-set_same next place (get_or next before None) None within in
      let once = spells_set next (get_or next before None) xs place (get_or next before None) (neither_second (eqb place before) (has xs place) lacks) spells in
      let rest = spells_set (set next place (get_or next before None)) (get_or next before None) xs before (Some place) (lacks_from_none xs before apart.0) once in
      (start_is, omega (arith, as_long, in_range), (linked, omega (arith, as_long), subst (λ (o : Option ℕ). Spells relinked o xs) (sym onward) rest))

  pub spells_after : (start : Option ℕ) (items : List ℕ) → has items before ≡ true → has items place ≡ false → IsDistinct eqb items → Spells next start items
      → Spells relinked start (put_after before place items)
  unfolding IsDistinct
  spells_after start [] there lacks apart spells = absurd (true≢false (sym there))
  spells_after start (x ∷ xs) there lacks apart spells =
      by (eqb x before) refl (λ later. spells_after (get_or next x None) xs later (neither_second (eqb place x) (has xs place) lacks) apart.1 spells.2)
    where
      by : (t : Bool) → eqb x before ≡ t → (has xs before ≡ true → Spells relinked (get_or next x None) (put_after before place xs))
          → Spells relinked start (cond t (x ∷ place ∷ xs) (x ∷ put_after before place xs))
      by true same rest =
          let is : before ≡ x = sym (eqb-true x before same) in
          let P : ℕ → Type 0 = λ y. (y < length next) × (has (y ∷ xs) place ≡ false) × IsDistinct eqb (y ∷ xs) × (start ≡ Some y) × Spells next (get_or next y None) xs in
          let here : P before = subst P (sym is) (spells.1, lacks, apart, spells.0, spells.2) in
          subst (λ (y : ℕ). Spells relinked start (y ∷ place ∷ xs)) is (spells_there start xs here.0 here.1 here.2 here.3 here.4)
      by false other rest =
          let not_place : x ≢ place = λ e. unlike place x (neither_first (eqb place x) (has xs place) lacks) (sym e) in
          let kept : get_or relinked x None ≡ get_or next x None = link_other x not_place (unlike x before other) in
          let later = either_second (eqb before x) (has xs before) (eqb-turned x before other) there in
          (spells.0, omega (arith, as_long, spells.1), subst (λ (o : Option ℕ). Spells relinked o (put_after before place xs)) (sym kept) (rest later))

all_put_after : (P : ℕ → Type 0) (before place : ℕ) (items : List ℕ) → P place → AllByRecursion P items → AllByRecursion P (put_after before place items)
all_put_after P before place [] here all = (here, tt)
all_put_after P before place (x ∷ xs) here all = by (eqb x before) (all_put_after P before place xs here all.1)
  where
    by : (t : Bool) → AllByRecursion P (put_after before place xs) → AllByRecursion P (cond t (x ∷ place ∷ xs) (x ∷ put_after before place xs))
    by true rest = (all.0, (here, all.1))
    by false rest = (all.0, rest)

pub apart_after : (before place : ℕ) (items : List ℕ) → has items place ≡ false → IsDistinct eqb items → IsDistinct eqb (put_after before place items)
unfolding IsDistinct
apart_after before place [] lacks apart = (tt, tt)
apart_after before place (x ∷ xs) lacks apart = by (eqb x before) (apart_after before place xs rest_lacks apart.1)
  where
    rest_lacks : has xs place ≡ false
    rest_lacks = neither_second (eqb place x) (has xs place) lacks

    other : eqb x place ≡ false
    other = eqb-turned place x (neither_first (eqb place x) (has xs place) lacks)

    by : (t : Bool) → IsDistinct eqb (put_after before place xs) → IsDistinct eqb (cond t (x ∷ place ∷ xs) (x ∷ put_after before place xs))
    by true rest = ((other, apart.0), (none_is xs place rest_lacks, apart.1))
    by false rest = (all_put_after (λ y. eqb x y ≡ false) before place xs other apart.0, rest)

apart_first : (items : List ℕ) (place : ℕ) → has items place ≡ false → IsDistinct eqb items → IsDistinct eqb (place ∷ items)
unfolding IsDistinct
apart_first items place lacks apart = (none_is items place lacks, apart)

-- what was read in range
read_at : (next : Links) (i : ℕ) (link other : Option ℕ) → i < length next → link ≡ get_or next i link → link ≡ get_or next i other
read_at next i link other within read = sym (get_or_from_slice_get next i link other (slice_get_read next (length next) i link refl within read))

-- The chain whose links are these, and whose list is this.
pub record IsChainOf (next : Links) (first : Option ℕ) (items : List ℕ) : Type 0 where
  pub chain : IsChain next first
  pub items_are : spelled (length next) next first ≡ items

is_chain_of : (next : Links) (first : Option ℕ) (items : List ℕ) → Spells next first items → IsDistinct eqb items → IsChainOf next first items
is_chain_of next first items spells apart = record { chain = is_chain next first items spells apart; items_are = chain_of next first items spells apart }

module _ (next : Links) (first : Option ℕ) (items : List ℕ) (chain : IsChain next first) (is : spelled (length next) next first ≡ items) where
  spells : Spells next first items
  spells = subst (Spells next first) is chain.spells

  apart : IsDistinct eqb items
  apart = subst (IsDistinct eqb) is chain.apart

  pub in_range : (place : ℕ) → has items place ≡ true → place < length next
  in_range = spelled_below next first items spells

  pub put_first : (place : ℕ) → place < length next → has items place ≡ false → IsChainOf (set next place first) (Some place) (place ∷ items)
  put_first place within lacks =
      is_chain_of (set next place first) (Some place) (place ∷ items) (spells_first next first items place within lacks spells) (apart_first items place lacks apart)

  pub put_next : (before place : ℕ) (link : Option ℕ) → link ≡ get_or next before link → has items before ≡ true → place < length next → has items place ≡ false
      → IsChainOf (set (set next place link) before (Some place)) first (put_after before place items)
  put_next before place link link_is there within lacks =
      let made = is_chain_of (relinked next before place within) first (put_after before place items) (spells_after next before place within first items there lacks apart spells) (apart_after before place items lacks apart) in
      subst (λ (o : Option ℕ). IsChainOf (set (set next place o) before (Some place)) first (put_after before place items)) (sym (read_at next before link None (in_range before there) link_is)) made

pub empty_chain : (next : Links) → IsChainOf next None []
unfolding IsDistinct
empty_chain next = is_chain_of next None [] refl tt

-- a walk along the links

has_middle : (places rest : List ℕ) (place : ℕ) → has (places ++ place ∷ rest) place ≡ true
has_middle [] rest place = ap (λ (t : Bool). t || has rest place) (eq-eqb place place refl)
has_middle (x ∷ places) rest place = by (eqb place x) (has_middle places rest place)
  where
    by : (t : Bool) → has (places ++ place ∷ rest) place ≡ true → (t || has (places ++ place ∷ rest) place) ≡ true
    by true h = refl
    by false h = h

module _ (next : Links) (items places : List ℕ) where
  -- where no link leads on, the walk is at its end
  pub walk_ends : (m : ℕ) (at : Option ℕ) → at ≡ None → places ++ spelled m next at ≡ items → places ≡ items
  walk_ends m at none left =
      sym (append-nil places) ∙ ap (λ (ys : List ℕ). places ++ ys) (sym (ap (spelled m next) none ∙ spelled_none m next)) ∙ left

  module _ (m : ℕ) (at : Option ℕ) (place : ℕ) (some : at ≡ Some place) (left : places ++ spelled (suc m) next at ≡ items) where
    split : places ++ place ∷ spelled m next (get_or next place None) ≡ items
    split = ap (λ (o : Option ℕ). places ++ spelled (suc m) next o) (sym some) ∙ left

    -- a link leads to a place of the list
    pub walk_stays : has items place ≡ true
    walk_stays = ap (λ (ys : List ℕ). has ys place) (sym split) ∙ has_middle places (spelled m next (get_or next place None)) place

    pub walk_goes_on : (pushed : List ℕ) (link : Option ℕ) → pushed ≡ places ++ place ∷ [] → place < length next → link ≡ get_or next place link → pushed ++ spelled m next link ≡ items
    walk_goes_on pushed link pushed_is within read =
        (λ i. pushed_is i ++ spelled m next (read_at next place link None within read i)) ∙ append_assoc places (place ∷ []) (spelled m next (get_or next place None)) ∙ split
