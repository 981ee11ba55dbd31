use Rattle.std.proofs.Common.{ℕ, List, ◌++◌, Bor, map, take, append-nil, sym, ap, subst, ◌∙◌, arith}
use Rattle.std.specs.List.{AllByRecursion}
use Rattle.std.proofs.lemmas.List.{map_more, take_all, take-map}
use Rattle.mt_bwfread.specs.Wave.{IsWave}
use Rattle.mt_render.specs.Sources.{Sources, found, sources_of}
use Rattle.mt_render.proofs.Gathered.{added_more, waves_more, fault_at, left_at, slice_at, digest_at}
use Rattle.mt_render.proofs.catalogue.Catalogue.add_all.Goals as goal

pub loop-index-init : goal.loop-index-init
loop-index-init g c = record { added = λ d. ap (λ (s : Sources). found s d) (sym (append-nil c.args.self.now)); waves = tt }

pub returns-in-Err-clause-fault : goal.returns-in-Err-clause-fault
returns-in-Err-clause-fault g c =
    let files = c.args.files.now in
    let i = c.loop-index.index in
    fault_at (map (λ file. file.now) files) i _ c.in-Err.fault (subst (AllByRecursion IsWave) (sym (take-map (λ file. file.now) i files)) c.loop-index.invariant.waves)
    (slice_at files i _ (omega arith)) c.in-Err.ensures.fault

pub returns-in-Err-clause-left : goal.returns-in-Err-clause-left
returns-in-Err-clause-left g c =
    let files = c.args.files.now in
    let i = c.loop-index.index in
    left_at c.args.self.now c.add_under.new.self (map (λ file. file.now) files) i _ c.in-Err.fault (subst (AllByRecursion IsWave) (sym (take-map (λ file. file.now) i files)) c.loop-index.invariant.waves)
    (slice_at files i _ (omega arith)) c.in-Err.ensures.fault
    (λ d. c.in-Err.ensures.refused d ∙ c.loop-index.invariant.added d ∙ ap (λ (fs : List (List ℕ)). found (c.args.self.now ++ sources_of fs) d) (sym (take-map (λ file. file.now) i files)))

pub loop-index-preserved : goal.loop-index-preserved
loop-index-preserved g c =
    let files = c.args.files.now in
    let i = c.loop-index.index in
    let more = map_more (λ file. file.now) files i _ (omega arith) in
    record {
      added = λ d.
          added_more c.args.self.now c.loop-index.self c.add_under.new.self (map (λ file. file.now) (take i files)) _ _ c.loop-index.invariant.added
          (digest_at files c.in-Ok.digests.items i c.index.result.now _ (omega arith) c.in-Ok.ensures c.index.ensures) c.in-Ok-add_under.ensures.first c.in-Ok-add_under.ensures.others d
          ∙ ap (λ (fs : List (List ℕ)). found (c.args.self.now ++ sources_of fs) d) (sym more);
      waves = subst (AllByRecursion IsWave) (sym more) (waves_more _ _ c.loop-index.invariant.waves c.in-Ok-add_under.ensures.wave);
    }

pub returns-clause-ok : goal.returns-clause-ok
returns-clause-ok g c = λ d. c.loop-index.invariant.added d ∙ ap (λ (files : List (Bor (List ℕ))). found (c.args.self.now ++ sources_of (map (λ file. file.now) files)) d) (take_all c.loop-index.index c.args.files.now (omega arith))

pub returns-clause-waves : goal.returns-clause-waves
returns-clause-waves g c = subst (λ (files : List (Bor (List ℕ))). AllByRecursion IsWave (map (λ file. file.now) files)) (take_all c.loop-index.index c.args.files.now (omega arith)) c.loop-index.invariant.waves
