-- Joining by the greater keeps the greatest.
use Rattle.std.proofs.Common.{◌≡◌, ℕ, zero, suc, ◌<◌, false, List, [], ◌∷◌, length, refl, sym, ap, ◌∙◌, arith, inl, inr, ◌⊎◌}
use Rattle.std.specs.Prelude.{slice_index_or, if◌then◌else◌}
use Rattle.std.specs.List.{Contains}
use Rattle.std.specs.Ordering.{ordering_reverse, is_lt, is_gt}
use Rattle.std.specs.declared.cmp.Ordering.{Ordering}
use Rattle.std.specs.declared.cmp.Ordering.TheVariants.{Less, Equal, Greater}
use Rattle.std.specs.Cmp.{IsTotalOrder, tied_itself, tied_back, upto}
use Rattle.mt_cells.specs.Folds.{join_all, IsGreatest}
use Rattle.mt_stamp.specs.Written.{greater}

module _ {K : Type 0} {R : K → K → Ordering} (o : IsTotalOrder R) where
  one_of : (a b : K) → (greater R a b ≡ a) ⊎ (greater R a b ≡ b)
  one_of a b = by (R a b)
    where
      by : (r : Ordering) → ((if is_lt r then b else a) ≡ a) ⊎ ((if is_lt r then b else a) ≡ b)
      by Less = inr refl
      by Equal = inl refl
      by Greater = inl refl

  not_below_first : (a b : K) → is_gt (R a (greater R a b)) ≡ false
  not_below_first a b = by (R a b) refl
    where
      by : (r : Ordering) → R a b ≡ r → is_gt (R a (if is_lt r then b else a)) ≡ false
      by Less e = ap is_gt e
      by Equal e = ap is_gt (tied_itself o a)
      by Greater e = ap is_gt (tied_itself o a)

  not_below_second : (a b : K) → is_gt (R b (greater R a b)) ≡ false
  not_below_second a b = by (R a b) refl
    where
      by : (r : Ordering) → R a b ≡ r → is_gt (R b (if is_lt r then b else a)) ≡ false
      by Less e = ap is_gt (tied_itself o b)
      by Equal e = ap is_gt (tied_back o a b e)
      by Greater e = ap is_gt (o.antisymm b a ∙ ap ordering_reverse e)

  widened : (x y g all : K) (ys : List K) → (g ≡ x) ⊎ (g ≡ y) → (k : ℕ) → k < length (g ∷ ys) → slice_index_or (g ∷ ys) k all ≡ all → Contains (x ∷ y ∷ ys) all
  widened x y g all ys (inl e) zero within is = (0, omega arith, sym e ∙ is)
  widened x y g all ys (inr e) zero within is = (1, omega arith, sym e ∙ is)
  widened x y g all ys side (suc k) within is = (suc (suc k), omega (arith, within), is)

  pub keeps_greatest : (x : K) (ys : List K) → IsGreatest R (x ∷ ys) (join_all (greater R) x ys)
  keeps_greatest x [] = record { is = (0, omega arith, refl); greatest = (ap is_gt (tied_itself o x), tt) }
  keeps_greatest x (y ∷ ys) =
      let rest = keeps_greatest (greater R x y) ys in
      record {
        is = widened x y (greater R x y) (join_all (greater R) (greater R x y) ys) ys (one_of x y) rest.is.0 rest.is.1 rest.is.2;
        greatest = (
          upto o x (greater R x y) (join_all (greater R) (greater R x y) ys) (not_below_first x y) rest.greatest.0,
          (upto o y (greater R x y) (join_all (greater R) (greater R x y) ys) (not_below_second x y) rest.greatest.0, rest.greatest.1),
        );
      }
