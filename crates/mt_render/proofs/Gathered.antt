-- Files that are put one behind another.
use Rattle.std.proofs.Common.{◌≡◌, ◌≢◌, ℕ, true, false, ◌<◌, List, [], ◌∷◌, ◌++◌, Option, Some, None, unwrap_or, map, take, length, get_or, refl, sym, ap, ◌∙◌, inl, inr, append_assoc, Bor, arith}
use Rattle.std.proofs.lemmas.List.{map-append, get_or-map, length-map}
use Rattle.std.proofs.lemmas.Option.{slice_get-get_or}
use Rattle.std.specs.Prelude.{slice_get}
use Rattle.std.specs.List.{AllByRecursion}
use Rattle.std.specs.Ordering.{is_eq}
use Rattle.std.specs.Option.{option_or}
use Rattle.std.specs.FinMap.{slice_cmp-IsAntisymmetric, nat_cmp-IsAntisymmetric}
use Rattle.std.specs.Str.{bytes_eq}
use Rattle.std.proofs.lemmas.Bool.{cases_Bool}
use Rattle.std.proofs.lemmas.Map.Text.{is_eq-slice_cmp}
use Rattle.sha2.specs.Sha256.{sha256}
use Rattle.mt_stamp.proofs.Texts.{unlike}
use Rattle.mt_op.specs.declared.digest.Digest.{Digest}
use Rattle.mt_bwfread.specs.Wave.{IsWave}
use Rattle.mt_render.specs.declared.fault.SourceFault.{SourceFault}
use Rattle.mt_render.specs.declared.fault.SourceFault.TheVariants.{Memory, Wave}
use Rattle.mt_render.specs.Faults.{IsSourceFault}
use Rattle.mt_render.specs.Sources.{Sources, digest_cmp, found, under_digest, sources_of, HasAdded, IsFileFault, AreLeft}
use Rattle.mt_render.proofs.Digests.{equal_of, same_digest}

tie : (d e : Digest) → is_eq (digest_cmp d e) ≡ true → d ≡ e
tie d e h = same_digest d e (slice_cmp-IsAntisymmetric nat_cmp-IsAntisymmetric d.0 e.0 (equal_of (digest_cmp d e) h))

no_tie : (d e : Digest) → is_eq (digest_cmp d e) ≡ false → d ≢ e
no_tie d e h same = unlike (bytes_eq d.0 e.0) d.0 e.0 (sym (is_eq-slice_cmp d.0 e.0) ∙ h) refl (ap (λ (k : Digest). k.0) same)

pub found_append : (a b : Sources) (d : Digest) → found (a ++ b) d ≡ option_or (found a d) (found b d)
found_append [] b d = refl
found_append (x ∷ a) b d = elim (cases_Bool (is_eq (digest_cmp d x.0))) [
  | inl same ↦ rw same refl
  | inr other ↦ rw other (found_append a b d)
]

-- one file more
found_behind : (old : Sources) (files : List (List ℕ)) (file : List ℕ) (d : Digest) → found (old ++ sources_of (files ++ file ∷ [])) d ≡ option_or (found (old ++ sources_of files) d) (found (sources_of (file ∷ [])) d)
found_behind old files file d =
    ap (λ (s : Sources). found (old ++ s) d) (map-append under_digest files (file ∷ []))
    ∙ ap (λ (s : Sources). found s d) (sym (append_assoc old (sources_of files) (sources_of (file ∷ []))))
    ∙ found_append (old ++ sources_of files) (sources_of (file ∷ [])) d

first_kept : (o : Option (List ℕ)) (x : List ℕ) → Some (unwrap_or o x) ≡ option_or o (Some x)
first_kept None x = refl
first_kept (Some t) x = refl

none_more : (o : Option (List ℕ)) → o ≡ option_or o None
none_more None = refl
none_more (Some t) = refl

pub added_more : (old was new : Sources) (files : List (List ℕ)) (file : List ℕ) (k : Digest) → HasAdded old files was → k.0 ≡ sha256 file → found new k ≡ Some (unwrap_or (found was k) file)
    → ((e : Digest) → e ≢ k → found new e ≡ found was e) → HasAdded old (files ++ file ∷ []) new
added_more old was new files file k before key put others d =
    let k_is : k ≡ (under_digest file).0 = same_digest k (under_digest file).0 key in
    elim (cases_Bool (is_eq (digest_cmp d (under_digest file).0))) [
      | inl same ↦
          let d_is : d ≡ k = tie d (under_digest file).0 same ∙ sym k_is in
          let here : found (sources_of (file ∷ [])) d ≡ Some file = rw same refl in
          ap (found new) d_is ∙ put ∙ ap (λ (e : Digest). Some (unwrap_or (found was e) file)) (sym d_is) ∙ ap (λ (o : Option (List ℕ)). Some (unwrap_or o file)) (before d) ∙ first_kept (found (old ++ sources_of files) d) file
          ∙ ap (option_or (found (old ++ sources_of files) d)) (sym here) ∙ sym (found_behind old files file d)
      | inr apart ↦
          let d_is_not : d ≢ k = λ (d_is : d ≡ k). no_tie d (under_digest file).0 apart (d_is ∙ k_is) in
          let here : found (sources_of (file ∷ [])) d ≡ None = rw apart refl in
          others d d_is_not ∙ before d ∙ none_more (found (old ++ sources_of files) d) ∙ ap (option_or (found (old ++ sources_of files) d)) (sym here) ∙ sym (found_behind old files file d)
    ]

pub waves_more : (files : List (List ℕ)) (file : List ℕ) → AllByRecursion IsWave files → IsWave file → AllByRecursion IsWave (files ++ file ∷ [])
waves_more [] file all is = (is, tt)
waves_more (x ∷ files) file all is = (all.0, waves_more files file all.1 is)

pub fault_at : (files : List (List ℕ)) (index : ℕ) (file : List ℕ) (fault : SourceFault) → AllByRecursion IsWave (take index files) → slice_get files index ≡ Some file → IsSourceFault file fault → IsFileFault files fault
fault_at files index file Memory all at is = tt
fault_at files index file (Wave fault) all at is = (index, (file, (all, at, is)))

pub left_at : (old new : Sources) (files : List (List ℕ)) (index : ℕ) (file : List ℕ) (fault : SourceFault) → AllByRecursion IsWave (take index files) → slice_get files index ≡ Some file
    → IsSourceFault file fault → HasAdded old (take index files) new → AreLeft old files new fault
left_at old new files index file Memory all at is added = (index, added)
left_at old new files index file (Wave fault) all at is added = (index, ((file, (all, at, is)), added))

-- what is read in a place of a list of slices, and its digest
pub slice_at : (files : List (Bor (List ℕ))) (index : ℕ) (file : Bor (List ℕ)) → index < length files → slice_get (map (λ (f : Bor (List ℕ)). f.now) files) index ≡ Some (get_or files index file).now
slice_at files index file lt =
    slice_get-get_or (map (λ (f : Bor (List ℕ)). f.now) files) index file.now (omega (arith, length-map files (λ (f : Bor (List ℕ)). f.now)))
    ∙ ap Some (get_or-map (λ (f : Bor (List ℕ)). f.now) files index file file.now lt)

pub digest_at : (files : List (Bor (List ℕ))) (digests : List (List ℕ)) (index : ℕ) (digest : List ℕ) (file : Bor (List ℕ)) → index < length files → digests ≡ map (λ (f : Bor (List ℕ)). sha256 f.now) files
    → digest ≡ get_or digests index digest → digest ≡ sha256 (get_or files index file).now
digest_at files digests index digest file lt are is =
    is ∙ ap (λ (ds : List (List ℕ)). get_or ds index digest) are ∙ get_or-map (λ (f : Bor (List ℕ)). sha256 f.now) files index file digest lt

-- files that are put where there was none
pub added_to_none : (old new : Sources) (files : List (List ℕ)) → ((d : Digest) → found old d ≡ None) → HasAdded old files new → (d : Digest) → found new d ≡ found (sources_of files) d
added_to_none old new files none added d = added d ∙ found_append old (sources_of files) d ∙ ap (λ (o : Option (List ℕ)). option_or o (found (sources_of files) d)) (none d)
