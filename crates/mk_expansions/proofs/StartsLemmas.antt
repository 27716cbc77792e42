-- Where a search in one molecule starts. `rest` is what the place leaves to the molecule, and `start` the place for codes.
--     none_below_start       what is made of a code below the start is below the rest
--     back_is_above          a code from the start on, and what isn't below the place behind it, aren't below the rest
--     above_is_back          and the other way round
--     before_zero            what stands before the 0 of a place
use Rattle.std.proofs.Common.{◌≡◌, inl, inr, ℕ, List, [], ◌∷◌, ◌++◌, length, refl, sym, ap, ◌∙◌, subst, arith}
use Rattle.std.proofs.lemmas.List.{append-nil, length-append}
use Rattle.mk_text.specs.Rising.{IsBelow}
use Rattle.mk_text.proofs.ForCallers.{below_behind, below_joined, below_or_not, below_through, not_below_after, not_below_itself, between_none}
use Rattle.mk_model.specs.Codes.{IsCode}
use Rattle.mk_model.specs.OpenSlots.{Chooses}
use Rattle.mk_model.specs.Queries.{QueryView, slots_of}
use Rattle.mk_model.proofs.ForCallers.{chooses_of, enough}
use Rattle.mk_expansions.specs.Starts.{IsBehind, IsStart}

-- ---- the order

-- what stands behind the same front
pub behind_same : (a b c : List ℕ) → IsBelow (a ++ b) (a ++ c) → IsBelow b c
behind_same [] b c below = below
behind_same (x ∷ a) b c (inl less) = absurd (omega arith)
behind_same (x ∷ a) b c (inr h) = behind_same a b c h.1

-- what begins a list below another is below it too
pub shorter_below : (a b rest : List ℕ) → IsBelow (a ++ b) rest → IsBelow a rest
shorter_below a b [] below = absurd below
shorter_below [] b (y ∷ rest) below = tt
shorter_below (x ∷ a) b (y ∷ rest) (inl less) = inl less
shorter_below (x ∷ a) b (y ∷ rest) (inr h) = inr (h.0, shorter_below a b rest h.1)

-- what stands before the 0 of a place
pub before_zero : (xs ys : List ℕ) → xs ++ 0 ∷ [] ≡ ys ++ 0 ∷ [] → xs ≡ ys
before_zero [] [] e = refl
before_zero [] (y ∷ ys) e = absurd (omega (arith, ap length e, length-append ys (0 ∷ [])))
before_zero (x ∷ xs) [] e = absurd (omega (arith, ap length e, length-append xs (0 ∷ [])))
before_zero (x ∷ xs) (y ∷ ys) e =
    let rest = before_zero xs ys cc in
    let first : x ≡ y = cc in
    cc

-- a structural code doesn't begin another
pub no_longer_code : (query : QueryView) (code other more : List ℕ) → IsCode query 0 code → IsCode query 0 other → other ≡ code ++ more → other ≡ code
no_longer_code query code other more is its e =
    let none : more ≡ [] = enough query (slots_of query 0) code more (chooses_of query 0 code is)
    (subst (λ (zs : List ℕ). Chooses query (slots_of query 0) zs) e (chooses_of query 0 other its)) in
    e ∙ ap (λ (zs : List ℕ). code ++ zs) none ∙ append-nil code

-- ---- codes below the start

pub none_below_start : (query : QueryView) (rest start code back : List ℕ) → IsStart query rest start → IsCode query 0 code → IsBelow code start → IsBelow (code ++ back) rest
none_below_start query rest start code back (inl (is, behind, whole)) its below =
    subst (λ (zs : List ℕ). IsBelow (code ++ back) zs) (sym whole)
    (below_joined code start back behind below
    (λ more e. (let same = no_longer_code query code start more its is e in not_below_itself code (subst (λ (zs : List ℕ). IsBelow code zs) same below))))
none_below_start query rest start code back (inr (same, none)) its below =
    let under : IsBelow code rest = subst (λ (zs : List ℕ). IsBelow code zs) same below in
    subst (λ (zs : List ℕ). IsBelow (code ++ back) zs) (append-nil rest)
    (below_joined code rest back [] under (λ more e. none code more its e))

-- ---- codes from the start on

-- a code from the start on with which the rest doesn't begin
apart_not_below : (query : QueryView) (rest start code back : List ℕ) → IsStart query rest start → IsCode query 0 code → (IsBelow code start → ⊥)
    → ((behind : List ℕ) → rest ≡ code ++ behind → ⊥) → IsBelow (code ++ back) rest → ⊥
apart_not_below query rest start code back (inl (is, behind, whole)) its not apart below =
    elim (below_or_not code (start ++ (0 ∷ []))) [
      | inl up ↦ apart behind (subst (λ (zs : List ℕ). rest ≡ zs ++ behind) (between_none start code not up) whole)
      | inr later ↦
          let over = not_below_after start code later in
          let above = below_joined start code behind back over
          (λ more e. (let same = no_longer_code query start code more is its e in not_below_itself start (subst (λ (zs : List ℕ). IsBelow start zs) same over))) in
          not_below_itself rest (below_through rest (code ++ back) rest (subst (λ (zs : List ℕ). IsBelow zs (code ++ back)) (sym whole) above) below)
    ]
apart_not_below query rest start code back (inr (same, none)) its not apart below =
    subst (λ (zs : List ℕ). IsBelow code zs → ⊥) same not (shorter_below code back rest below)

pub back_is_above : (query : QueryView) (rest start code back from : List ℕ) → IsStart query rest start → IsCode query 0 code → (IsBelow code start → ⊥) → IsBehind code rest from
    → (IsBelow back from → ⊥) → IsBelow (code ++ back) rest → ⊥
back_is_above query rest start code back from is its not (inl whole) above below =
    above (behind_same code back from (subst (λ (zs : List ℕ). IsBelow (code ++ back) zs) whole below))
back_is_above query rest start code back from is its not (inr (none, apart)) above below = apart_not_below query rest start code back is its not apart below

pub above_is_back : (code rest back from : List ℕ) → IsBehind code rest from → (IsBelow (code ++ back) rest → ⊥) → IsBelow back from → ⊥
above_is_back code rest back from (inl whole) above below = above (subst (λ (zs : List ℕ). IsBelow (code ++ back) zs) (sym whole) (below_behind code back from below))
above_is_back code rest back from (inr (none, apart)) above below = subst (λ (zs : List ℕ). IsBelow back zs) none below
