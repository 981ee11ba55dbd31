-- Digests that differ are two keys.
use Rattle.std.proofs.Common.{◌≡◌, ◌≢◌, ℕ, true, false, List, Option, Some, None, unwrap_or, refl, sym, ◌∙◌, ap, inl, inr}
use Rattle.std.specs.Prelude.{is_some}
use Rattle.std.specs.Ordering.{is_eq}
use Rattle.std.specs.FinMap.{slice_cmp-IsAntisymmetric, nat_cmp-IsAntisymmetric}
use Rattle.std.specs.declared.cmp.Ordering.{Ordering}
use Rattle.std.specs.declared.cmp.Ordering.TheVariants.{Less, Equal, Greater}
use Rattle.std.proofs.lemmas.Bool.{cases_Bool, false≢true}
use Rattle.mt_op.specs.declared.digest.Digest.{Digest}
use Rattle.mt_render.specs.Sources.{digest_cmp}

pub equal_of : (o : Ordering) → is_eq o ≡ true → o ≡ Equal
equal_of Less h = absurd (false≢true h)
equal_of Equal h = refl
equal_of Greater h = absurd (false≢true h)

pub same_digest : (d e : Digest) → d.0 ≡ e.0 → d ≡ e
same_digest d e bytes = λ i. record { 0 = bytes i }

pub digests_apart : (d e : Digest) → e ≢ d → is_eq (digest_cmp d e) ≡ false
digests_apart d e differ =
    elim (cases_Bool (is_eq (digest_cmp d e))) [
      | inl tie ↦ absurd (differ (sym (same_digest d e (slice_cmp-IsAntisymmetric nat_cmp-IsAntisymmetric d.0 e.0 (equal_of _ tie)))))
      | inr apart ↦ apart
    ]

-- what was not there is put there
pub put_first : (old new : Option (List ℕ)) (wave bytes : List ℕ) → is_some old ≡ false → wave ≡ bytes → new ≡ Some wave → new ≡ Some (unwrap_or old bytes)
put_first None new wave bytes none is put = put ∙ ap Some is
put_first (Some x) new wave bytes none is put = absurd cc
