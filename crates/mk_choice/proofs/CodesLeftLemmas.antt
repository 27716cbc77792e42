-- How many codes are left from a place on: fewer behind each that is taken.
--     codes_left      how many valid codes aren't below the place
--     fewer_left      behind a code that is taken there are fewer
--     nodes_left      how many beginnings of structural codes aren't below a list
--     fewer_nodes     behind one that is passed there are fewer
use Rattle.std.proofs.Common.{ℕ, ◌+◌, ◌<◌, ◌≤◌, ◌⊎◌, inl, inr, List, [], ◌∷◌, ◌++◌, map, refl, sym, subst, arith}
use Rattle.mk_text.specs.Rising.{Holds, IsBelow}
use Rattle.mk_text.proofs.ForCallers.{below_after, below_or_not, below_through, below_what_isnt, holds_append, holds_mapped}
use Rattle.mk_model.specs.Nodes.{BeginsCode}
use Rattle.mk_model.specs.PlainCodes.{codes_of, valid_codes}
use Rattle.mk_model.specs.QueryFits.{QueryFits}
use Rattle.mk_model.specs.Queries.{QueryView, slots_of}
use Rattle.mk_model.proofs.ForCallers.{chooses_of, codes_listed, valid_codes_listed as valid_codes_are_listed}
use Rattle.mk_choice.specs.Codes.{CodesLeft, IsNext}
use Rattle.mk_choice.proofs.ValidLemmas.{root_room}

-- one more where it isn't below
counted : {A : Type 0} → A ⊎ (A → ⊥) → ℕ → ℕ
counted (inl below) n = n
counted (inr not) n = n + 1

-- how many of the lists aren't below the place
how_many_from : List ℕ → List (List ℕ) → ℕ
how_many_from place [] = 0
how_many_from place (xs ∷ lists) = counted (below_or_not xs place) (how_many_from place lists)

-- ---- fewer from a higher place on

fewer_counted : {A B : Type 0} (a : A ⊎ (A → ⊥)) (b : B ⊎ (B → ⊥)) (m n : ℕ) → (A → B) → n ≤ m → counted b n ≤ counted a m
unfolding counted
fewer_counted (inl here) (inl there) m n up fewer = fewer
fewer_counted (inl here) (inr not) m n up fewer = absurd (not (up here))
fewer_counted (inr not) (inl there) m n up fewer = omega (arith, fewer)
fewer_counted (inr not) (inr not') m n up fewer = omega (arith, fewer)

less_counted : {A B : Type 0} (a : A ⊎ (A → ⊥)) (b : B ⊎ (B → ⊥)) (m n : ℕ) → (A → B) → n < m → counted b n < counted a m
unfolding counted
less_counted (inl here) (inl there) m n up fewer = fewer
less_counted (inl here) (inr not) m n up fewer = absurd (not (up here))
less_counted (inr not) (inl there) m n up fewer = omega (arith, fewer)
less_counted (inr not) (inr not') m n up fewer = omega (arith, fewer)

-- one that isn't below the first place, and is below the second
one_counted : {A B : Type 0} (a : A ⊎ (A → ⊥)) (b : B ⊎ (B → ⊥)) (m n : ℕ) → (A → ⊥) → B → n ≤ m → counted b n < counted a m
unfolding counted
one_counted (inl here) b m n not there fewer = absurd (not here)
one_counted (inr not') (inl there') m n not there fewer = omega (arith, fewer)
one_counted (inr not') (inr none) m n not there fewer = absurd (none there)

module _ (place to : List ℕ) (up : (xs : List ℕ) → IsBelow xs place → IsBelow xs to) where
  no_more_from : (lists : List (List ℕ)) → how_many_from to lists ≤ how_many_from place lists
  unfolding how_many_from
  no_more_from [] = omega arith
  no_more_from (xs ∷ lists) = fewer_counted (below_or_not xs place) (below_or_not xs to) (how_many_from place lists) (how_many_from to lists) (up xs) (no_more_from lists)

  fewer_from : (lists : List (List ℕ)) (xs : List ℕ) → Holds lists xs → (IsBelow xs place → ⊥) → IsBelow xs to → how_many_from to lists < how_many_from place lists
  unfolding how_many_from
  fewer_from [] xs held not below = absurd held
  fewer_from (ys ∷ lists) xs (inl same) not below =
      one_counted (below_or_not ys place) (below_or_not ys to) (how_many_from place lists) (how_many_from to lists)
      (subst (λ (zs : List ℕ). IsBelow zs place → ⊥) (sym same) not) (subst (λ (zs : List ℕ). IsBelow zs to) (sym same) below) (no_more_from lists)
  fewer_from (ys ∷ lists) xs (inr held) not below =
      less_counted (below_or_not ys place) (below_or_not ys to) (how_many_from place lists) (how_many_from to lists) (up ys) (fewer_from lists xs held not below)

-- ---- codes

-- how many valid codes aren't below the place
pub codes_left : QueryView → List ℕ → ℕ
codes_left query place = how_many_from place (valid_codes query)

-- behind a code that is taken there are fewer
pub fewer_left : (old new : CodesLeft) (code : List ℕ) → QueryFits old.query → IsNext old new code → codes_left old.query new.place < codes_left old.query old.place
unfolding codes_left
fewer_left old new code fits next =
    let listed = valid_codes_are_listed old.query fits in
    let below : IsBelow code new.place = subst (λ (zs : List ℕ). IsBelow code zs) (sym next.place) (below_after code) in
    fewer_from old.place new.place (λ xs under. below_through xs code new.place (below_what_isnt xs code old.place under next.least.from) below)
    (valid_codes old.query) code (listed.all code next.least.has) next.least.from below

-- ---- beginnings of structural codes

-- what a list begins with
prefixes : List ℕ → List (List ℕ)
prefixes [] = [] ∷ []
prefixes (x ∷ xs) = [] ∷ map (λ front. x ∷ front) (prefixes xs)

holds_front : (xs more : List ℕ) → Holds (prefixes (xs ++ more)) xs
unfolding prefixes
holds_front [] [] = inl refl
holds_front [] (m ∷ more) = inl refl
holds_front (x ∷ xs) more = inr (holds_mapped (λ front. x ∷ front) (prefixes (xs ++ more)) xs (holds_front xs more))

-- what some lists begin with
all_prefixes : List (List ℕ) → List (List ℕ)
all_prefixes [] = []
all_prefixes (xs ∷ lists) = prefixes xs ++ all_prefixes lists

holds_begun : (lists : List (List ℕ)) (xs more : List ℕ) → Holds lists (xs ++ more) → Holds (all_prefixes lists) xs
unfolding all_prefixes
holds_begun [] xs more held = absurd held
holds_begun (ys ∷ lists) xs more (inl same) =
    holds_append (prefixes ys) (all_prefixes lists) xs (inl (subst (λ (zs : List ℕ). Holds (prefixes zs) xs) (sym same) (holds_front xs more)))
holds_begun (ys ∷ lists) xs more (inr held) = holds_append (prefixes ys) (all_prefixes lists) xs (inr (holds_begun lists xs more held))

-- all with which structural codes begin
nodes : QueryView → List (List ℕ)
nodes query = all_prefixes (codes_of 512 query (slots_of query 0))

nodes_held : (query : QueryView) → QueryFits query → (node : List ℕ) → BeginsCode query node → Holds (nodes query) node
unfolding nodes
nodes_held query fits node begins =
    let chooses = chooses_of query 0 (node ++ begins.more) begins.code in
    holds_begun (codes_of 512 query (slots_of query 0)) node begins.more
    ((codes_listed 512 query (slots_of query 0)).all (node ++ begins.more) (record { short = omega (arith, root_room query fits (node ++ begins.more) chooses); chooses = chooses }))

-- how many of them aren't below a list
pub nodes_left : QueryView → List ℕ → ℕ
nodes_left query from = how_many_from from (nodes query)

-- behind one that is passed there are fewer
pub fewer_nodes : (query : QueryView) (from to node : List ℕ) → QueryFits query → BeginsCode query node → (IsBelow node from → ⊥) → IsBelow node to → nodes_left query to < nodes_left query from
unfolding nodes_left
fewer_nodes query from to node fits begins not over =
    fewer_from from to (λ xs under. below_through xs node to (below_what_isnt xs node from under not) over) (nodes query) node (nodes_held query fits node begins) not over
