-- The laws of open codes.
--     held          each completing code's expansion holds the open code's graph
--     no_hit        so where that has no embedding, no completing code has one
--     covered       and where a completing code has a hit, its need is covered
use Rattle.std.proofs.Common.{◌≡◌, ◌∙◌, ℕ, ◌+◌, ◌-◌, ◌<◌, Bool, true, List, [], ◌++◌, length, get_or, map, sym, ap, subst, arith}
use Rattle.std.proofs.lemmas.List.{get_or_default}
use Rattle.mk_model.specs.Codes.{spelling}
use Rattle.mk_model.specs.Expansions.{IsExpansion, expansion}
use Rattle.mk_model.specs.Graphs.{GraphView}
use Rattle.mk_model.specs.Hits.{image}
use Rattle.mk_model.specs.Pieces.{Fragment}
use Rattle.mk_model.specs.Queries.{QueryView, slots_of}
use Rattle.mk_model.proofs.ForCallers.{embedding_of, one_choice, place_within}
use Rattle.mk_screen.proofs.LossFreeLemmas.{covers_of_embedding}
use Rattle.mk_open_codes.specs.Laws.{CompletionsCoverItsNeed, CompletionsHoldTheOpenGraph, IsHeldBy, NoHitNoCompletion}
use Rattle.mk_expand.specs.OpenCodes.{OpenChoice, open_spelling}
use Rattle.mk_open_codes.specs.Completions.{Agrees, Completes}
use Rattle.mk_expand.specs.OpenGraphs.{IsOpenGraph, open_expansion, opens_one_ended}
use Rattle.mk_open_codes.proofs.HitLemmas.{hit_shared}
use Rattle.mk_open_codes.proofs.HungLemmas.{IsHung}
use Rattle.mk_open_codes.proofs.MarkLemmas.{Draws, DrawsShared}
use Rattle.mk_open_codes.proofs.OpenChoiceLemmas.{template_shared}
use Rattle.mk_expand.proofs.OneChoiceLemmas.{one_open_choice}
use Rattle.mk_open_codes.proofs.SharedLemmas.{IsShared}

-- the choices of a completing code and of its open code agree
agreed : (query : QueryView) (code open_code : List ℕ) (whole part : GraphView) → Completes query code open_code → (is : IsExpansion query code whole) → (of : IsOpenGraph query open_code part)
    → Agrees of.choice is.choice
agreed query code open_code whole part completes is of =
    let same : spelling completes.choice ++ [] ≡ spelling is.choice ++ [] = ap (λ (xs : List ℕ). xs ++ []) (completes.spelt ∙ sym is.spelt) in
    let choices = (one_choice query (slots_of query 0) completes.choice is.choice [] [] completes.made is.made same).choices in
    let same' : open_spelling completes.open_choice ++ [] ≡ open_spelling of.choice ++ [] = ap (λ (xs : List ℕ). xs ++ []) (completes.open_spelt ∙ sym of.spelt) in
    let open_choices = (one_open_choice query (slots_of query 0) completes.open_choice of.choice [] [] completes.open_made of.made same').choices in
    subst (λ (o : OpenChoice). Agrees o is.choice) open_choices (subst (Agrees completes.open_choice) choices completes.agrees)

pub held : CompletionsHoldTheOpenGraph
held query code open_code whole part fits completes is of =
    let there : 0 < length query.templates = place_within query.templates 0 fits.small_root.root fits.small_root.at in
    let found = template_shared query fits 0 there of.choice is.choice is.made (agreed query code open_code whole part completes is of) in
    let weak : DrawsShared (opens_one_ended query (slots_of query 0) of.choice) (open_expansion query 0 of.choice) part = record { kept = of.kept; atoms = of.atoms; bonds = of.bonds } in
    let drawn : Draws (expansion query 0 is.choice) whole = record { kept = is.kept; atoms = is.atoms; each = is.each; all = is.all } in
    by (opens_one_ended query (slots_of query 0) of.choice) (open_expansion query 0 of.choice) (expansion query 0 is.choice) found.0 found.1 found.2 weak drawn
  where
    by : (stays : Bool) (small large : Fragment) (places : List ℕ) → IsShared small large places
        → (stays ≡ true → (home : ℕ → ℕ) × (root : ℕ → ℕ) × IsHung small large places home root) → DrawsShared stays small part → Draws large whole → IsHeldBy part whole
    by stays small large places shared hung weak drawn = record {
      shared = places;
      rise = λ i j d less below.
          let up = shared.rise (i + 1) (j + 1) (omega arith) (omega (arith, less)) (omega (arith, below, shared.size)) in
          let one = at i d (omega (arith, less, below)) in
          let other = at j d below in
          omega (arith, up, one, other);
      within = λ i d below.
          let range = shared.within (i + 1) (omega arith) (omega (arith, below, shared.size)) in
          let one = at i d below in
          (omega (arith, range.0, one), omega (arith, range.1, one, ap length drawn.atoms));
      images = λ mol hit is_hit. hit_shared stays small large places shared hung part whole weak drawn mol hit is_hit;
    }
      where
        at : (i d : ℕ) → i < length places → get_or places i d ≡ image places (i + 1)
        at i d below = (let same : i ≡ i + 1 - 1 = omega arith in get_or_default places i d 0 below ∙ ap (λ (k : ℕ). get_or places k 0) same)

pub no_hit : NoHitNoCompletion
no_hit query open_code part mol fits of none code whole completes is images embedded =
    let holds = held query code open_code whole part fits completes is of in
    none (map (image images) holds.shared) (holds.images mol images embedded)

pub covered : CompletionsCoverItsNeed
covered query code open_code whole part mol hit held_screen need fits completes is of kept is_hit of_mol of_part =
    let holds = held query code open_code whole part fits completes is of in
    covers_of_embedding part mol (map (image hit) holds.shared) held_screen need (holds.images mol hit (embedding_of whole mol hit is_hit)) of_mol of_part
