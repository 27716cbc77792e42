-- Turns in one molecule.
--     one_higher, higher_cons       the higher of two lists
--     shut_start .. few_start       where a search starts
--     closed                        none is left of the code that is open, and no code is open
--     turn_item, turn_moved         a turn of the code that is open
--     codes_moved                   a turn of the codes that takes none out
--     shown_on                      a code is passed, or opened
--     bare_item, bare_moved, bare_none      the one hit of a code whose graph has no atoms
--     item_here .. behind_here      a turn of the code that is open, where one is, and behind it
--     none_to_open                  no code is left
use Rattle.std.proofs.Common.{◌≡◌, ℕ, ◌+◌, ◌-◌, ◌≤◌, inl, inr, Bool, true, false, List, [], ◌∷◌, ◌++◌, length, take, Option, Some, None, refl, sym, ap, subst, ◌∙◌, arith, append_assoc, append-nil, length-append}
use Rattle.std.specs.Prelude.{◌==◌, if◌then◌else◌}
use Rattle.std.proofs.lemmas.List.{length-take}
use Rattle.mk_text.specs.Rising.{Holds, IsBelow, IsLeastFrom}
use Rattle.mk_text.proofs.ForCallers.{below_after, below_behind, below_joined, below_or_not, below_through, below_what_isnt, none_before_place_behind, not_below_itself}
use Rattle.mk_model.specs.declared.turn.Turn.{Turn}
use Rattle.mk_model.specs.declared.turn.Turn.TheVariants.{Item, Moved, End}
use Rattle.mk_model.specs.Codes.{IsCode}
use Rattle.mk_model.specs.Expansions.{IsExpansion, expansion, joined, pieces_of, template_of}
use Rattle.mk_model.specs.Graphs.{GraphView}
use Rattle.mk_model.specs.Hits.{IsHit}
use Rattle.mk_model.specs.Keys.{IsOccurrence}
use Rattle.mk_model.specs.Logic.{IsValid}
use Rattle.mk_model.specs.Molecules.{Molecule}
use Rattle.mk_model.specs.Nodes.{BeginsCode, Pays, SameFrom, StandBetween}
use Rattle.mk_model.specs.Queries.{QueryView, slots_of}
use Rattle.mk_model.specs.QueryFits.{QueryFits}
use Rattle.mk_model.specs.Screens.{IsNeedOf}
use Rattle.mk_model.proofs.ForCallers.{below_more, chooses_of, code_is_short, code_of_valid, not_below_front, not_below_through}
use Rattle.mk_choice.specs.Codes.{CodesLeft, IsMadeFrom, IsMoved, IsNext}
use Rattle.mk_choice.proofs.ForCallers.{no_valid_begins_another}
use Rattle.mk_choice.proofs.FrontLemmas.{least_through, same_here, same_of, same_through}
use Rattle.mk_counts.specs.Asked.{AreAsked}
use Rattle.mk_match.specs.Maps.{MapsLeft, IsTurn as IsTurnOfMaps}
use Rattle.mk_walk.specs.Turns.{IsMapNode}
use Rattle.mk_pieces.proofs.ForCallers.{root_small}
use Rattle.mk_pieces.proofs.JoinedLemmas.{length_atoms}
use Rattle.mk_pieces.proofs.RoomLemmas.{template_size}
use Rattle.mk_search.specs.declared.occurrences.Open.{Open}
use Rattle.mk_search.specs.Begins.{IsLeftBy}
use Rattle.mk_search.specs.Begun.{Begun}
use Rattle.mk_search.specs.Levels.{AtBacks, IsPair}
use Rattle.mk_search.specs.Occurrences.{HitsBehind, IsCodeFrom, IsOpenedAt, Leaves, is_open, reached}
use Rattle.mk_expansions.specs.Starts.{IsBehind, IsStart}
use Rattle.mk_search.specs.Turns.{IsBegunAt, IsCodeShown, IsHigher, IsInnerNode, IsShut, IsTurnHere, IsTurnIn, LeavesNone, MovesTo, OwesFew, StandsIn, TakesOut, TurnsMaps, debt_in}
use Rattle.mk_search.proofs.BegunLemmas.{begun_none, begun_over}
use Rattle.mk_search.proofs.LevelLemmas.{at_back, backs_same, fronts_from, goes_up, longer, nested, over_not, same_backs, same_fronts, shorter}
use Rattle.mk_search.proofs.OpenLemmas.{begun_opened, behind_hits, hitless_passed, is_pair, none_here, none_left, taken_here}
use Rattle.mk_search.proofs.PassingLemmas.{behind_front_none, behind_over, front_passed}
use Rattle.mk_search.proofs.PayLemmas.{PaysFor, as_one, below_later, for_one, pays_lifted, pays_on, stand_lifted}
use Rattle.mk_expansions.proofs.StartsLemmas.{before_zero, behind_same, no_longer_code}

-- ---- the higher of two lists

pub higher_here : (here to new : List ℕ) → IsHigher here to new → IsBelow new here → ⊥
higher_here here to new (inl stays) below = not_below_itself here (subst (λ (zs : List ℕ). IsBelow zs here) stays.1 below)
higher_here here to new (inr moves) below = moves.0 (subst (λ (zs : List ℕ). IsBelow zs here) moves.1 below)

pub higher_to : (here to new : List ℕ) → IsHigher here to new → IsBelow new to → ⊥
higher_to here to new (inl stays) below = over_not to here stays.0 (subst (λ (zs : List ℕ). IsBelow zs to) stays.1 below)
higher_to here to new (inr moves) below = not_below_itself to (subst (λ (zs : List ℕ). IsBelow zs to) moves.1 below)

pub one_higher : (here to one other : List ℕ) → IsHigher here to one → IsHigher here to other → one ≡ other
one_higher here to one other (inl h) (inl g) = h.1 ∙ sym g.1
one_higher here to one other (inl h) (inr g) = absurd (g.0 h.0)
one_higher here to one other (inr h) (inl g) = absurd (h.0 g.0)
one_higher here to one other (inr h) (inr g) = h.1 ∙ sym g.1

pub higher_cons : (n : ℕ) (here to new : List ℕ) → IsHigher here to new → IsHigher (n ∷ here) (n ∷ to) (n ∷ new)
higher_cons n here to new (inl stays) = inl (inr (refl, stays.0), ap (λ (zs : List ℕ). n ∷ zs) stays.1)
higher_cons n here to new (inr moves) = inr (λ below. moves.0 (behind_same (n ∷ []) to here below), ap (λ (zs : List ℕ). n ∷ zs) moves.1)

-- ---- nodes

module _ (query : QueryView) where
  -- what a structural code begins with doesn't go on behind another
  node_apart : (code node : List ℕ) → IsCode query 0 code → BeginsCode query node → IsBelow code node → (more : List ℕ) → node ≡ code ++ more → ⊥
  node_apart code node is begins below more e =
      let whole : node ++ begins.more ≡ code ++ (more ++ begins.more) = ap (λ (zs : List ℕ). zs ++ begins.more) e ∙ append_assoc code more begins.more in
      let same = no_longer_code query code (node ++ begins.more) (more ++ begins.more) is begins.code whole in
      not_below_front node begins.more (subst (λ (zs : List ℕ). IsBelow zs node) (sym same) below)

  -- so above a code it is above all that stands behind the code
  node_over : (code back node : List ℕ) → IsCode query 0 code → BeginsCode query node → IsBelow code node → IsBelow (code ++ back) node
  node_over code back node is begins below =
      subst (λ (zs : List ℕ). IsBelow (code ++ back) zs) (append-nil node) (below_joined code node back [] below (node_apart code node is begins below))

  node_up_to : (code node : List ℕ) → IsCode query 0 code → BeginsCode query node → (IsBelow (code ++ 0 ∷ []) node → ⊥) → IsBelow code node → ⊥
  node_up_to code node is begins not below = not (node_over code (0 ∷ []) node is begins below)

  -- ---- sizes

  code_short : QueryFits query → (code : List ℕ) → IsValid query code → length code ≤ 512
  code_short fits code valid =
      code_is_short query fits.small_root.size fits.small_root.adds_up fits.small_root.small code (chooses_of query 0 code (code_of_valid query code valid))

  -- a code and the atoms of its expansion together are at most 512
  graph_short : QueryFits query → (code : List ℕ) (graph : GraphView) → IsExpansion query code graph → length code + length graph.atoms ≤ 512
  unfolding expansion joined
  graph_short fits code graph is =
      let small = root_small query fits in
      let whole = template_size query fits small.size small.adds_up 0 small.there is.choice is.made in
      let atoms = length_atoms (template_of query 0) (pieces_of query (slots_of query 0) is.choice) (length (template_of query 0).atoms) in
      omega (arith, whole, small.small, atoms, ap length is.spelt, ap length is.atoms)

  -- ---- where a search starts

  -- of two codes with which one list begins
  same_code : (code other back behind : List ℕ) → IsCode query 0 code → IsCode query 0 other → code ++ back ≡ other ++ behind → other ≡ code
  same_code code other back behind is its e =
      elim (nested code back other behind e) [
        | longer more w ↦ no_longer_code query code other more is its w
        | shorter more w ↦ sym (no_longer_code query other code more its is w)
      ]

  pub shut_start : (place start : List ℕ) (codes : CodesLeft) → IsStart query place start → codes.place ≡ start → IsShut query place codes (length place - length start)
  shut_start place start codes starts at = record {
    over = λ node begins above. over starts node begins (subst (λ (zs : List ℕ). IsBelow zs node) at above);
    kept = λ code back valid _ e. kept starts code back (code_of_valid query code valid) e;
  }
    where
      over : IsStart query place start → (node : List ℕ) → BeginsCode query node → IsBelow start node → IsBelow place node
      over (inl (is, behind, whole)) node begins above = subst (λ (zs : List ℕ). IsBelow zs node) (sym whole) (node_over start behind node is begins above)
      over (inr (same, none)) node begins above = subst (λ (zs : List ℕ). IsBelow zs node) same above

      kept : IsStart query place start → (code back : List ℕ) → IsCode query 0 code → place ≡ code ++ back → length back ≤ length place - length start
      kept (inl (is, behind, whole)) code back its e =
          let same = same_code start code behind back is its (sym whole ∙ e) in
          omega (arith, ap length e, length-append code back, ap length same)
      kept (inr (same, none)) code back its e = absurd (none code back its e)

  pub start_within : (place start : List ℕ) → IsStart query place start → length start ≤ length place
  start_within place start (inl (is, behind, whole)) = omega (arith, ap length whole, length-append start behind)
  start_within place start (inr (same, none)) = omega (arith, ap length same)

  -- the place is the higher of it and the start
  pub higher_start : (place start at : List ℕ) → IsStart query place start → at ≡ start → IsHigher place at place
  higher_start place start at (inl (is, [], whole)) same = (let e : place ≡ at = whole ∙ append-nil start ∙ sym same in inr (λ below. not_below_itself at (subst (IsBelow at) e below), e))
  higher_start place start at (inl (is, x ∷ behind, whole)) same =
      inl (subst (λ (zs : List ℕ). IsBelow zs place) (sym same) (subst (IsBelow start) (sym whole) (below_more start x behind)), refl)
  higher_start place start at (inr (e, none)) same = (let e' : place ≡ at = sym e ∙ sym same in inr (λ below. not_below_itself at (subst (IsBelow at) e' below), e'))

  pub few_start : (place start : List ℕ) (codes : CodesLeft) → IsStart query place start → IsMadeFrom query start codes → OwesFew query place codes (length place - length start)
  few_start place start codes starts made = omega (arith, made.few, start_within place start starts)

-- so many numbers of a code are no more than it has
few_taken : (n : ℕ) (code : List ℕ) → length (take n code) ≤ length code
few_taken n code = omega (arith, length-take n code)

-- ---- what is passed in a molecule

-- what more is owed before and behind
pays_more : (P : List ℕ → Type 0) (from to : List ℕ) (more owed owing turns : ℕ) → PaysFor P from owed to owing turns → PaysFor P from (more + owed) to (more + owing) turns
pays_more P from to more owed owing turns p = record { passed = p.passed; stand = p.stand; up = p.up; pays = omega (arith, p.pays) }

-- lists that were begun stand up to where the search does
up_to_place : (P : List ℕ → Type 0) (from code at to : List ℕ) (before after : ℕ) → (b : Begun P from at before after) → at ≡ code ++ 0 ∷ [] → (IsBelow to code → ⊥)
    → (xs : List ℕ) → Holds b.begun xs → IsBelow to xs → ⊥
up_to_place P from code at to before after b is up xs held over =
    none_before_place_behind code xs (below_later code to xs up over) (subst (λ (zs : List ℕ). IsBelow xs zs) is (b.to_is xs held))

up_to_higher : (P : List ℕ → Type 0) (from at to : List ℕ) (before after : ℕ) → (b : Begun P from at before after) → (IsBelow to at → ⊥)
    → (xs : List ℕ) → Holds b.begun xs → IsBelow to xs → ⊥
up_to_higher P from at to before after b up xs held over = over_not at xs (below_later at to xs up over) (b.to_is xs held)

module _ (query : QueryView) (mol : Molecule) where
  same_occurrences : (here there : List ℕ) → SameFrom (IsPair (IsValid query) (HitsBehind query mol)) here there → SameFrom (IsOccurrence query mol) here there
  same_occurrences here there same = same_of (IsPair (IsValid query) (HitsBehind query mol)) (IsOccurrence query mol) (is_pair query mol) here there same

  apart : (front more : List ℕ) → IsValid query front → IsValid query (front ++ more) → more ≡ []
  apart front more is its = no_valid_begins_another query front more is its

  -- ---- a turn of the code that is open

  module _ (place : List ℕ) (codes : CodesLeft) (owed : ℕ) (old : Open) (stands : StandsIn query mol place codes owed (Some old)) where
    at_code : AtBacks (IsValid query) (HitsBehind query mol) place old.code.items old.maps.place
    at_code = stands.left.by.at

    is_code : IsCode query 0 old.code.items
    is_code = code_of_valid query old.code.items at_code.is

    -- none is left, and no code is open
    pub closed : IsLeastFrom old.maps.place (IsHit old.maps.graph old.maps.mol) None → StandsIn query mol place codes owed None
    closed none = record {
      left = none_here query mol place codes stands.left.query_is old stands.left.by none;
      by = record {
        over = λ node begins above. subst (λ (zs : List ℕ). IsBelow zs node) (sym stands.by) (node_over query old.code.items old.maps.place node is_code begins (above_code node above));
        kept = λ code back valid not e. absurd (not (under code (same_code query old.code.items code old.maps.place back is_code (code_of_valid query code valid) (sym stands.by ∙ e))));
      };
    }
      where
        placed : codes.place ≡ old.code.items ++ 0 ∷ []
        placed = stands.left.by.placed

        above_code : (node : List ℕ) → IsBelow codes.place node → IsBelow old.code.items node
        above_code node above = below_through old.code.items (old.code.items ++ 0 ∷ []) node (below_after old.code.items) (subst (λ (zs : List ℕ). IsBelow zs node) placed above)

        under : (code : List ℕ) → code ≡ old.code.items → IsBelow code codes.place
        under code same = subst (λ (zs : List ℕ). IsBelow code zs) (sym placed) (subst (λ (zs : List ℕ). IsBelow zs (old.code.items ++ 0 ∷ [])) (sym same) (below_after old.code.items))

    module _ (maps : MapsLeft) where
      abbrev with_maps : Open
      with_maps = record { maps = maps; code = old.code; asked = old.asked; need = old.need }

      -- what its turn pays
      maps_pay : (to : List ℕ) → to ≡ old.code.items ++ maps.place → Pays (IsMapNode old.maps.graph old.maps.mol) old.maps.place old.maps.debt maps.place maps.debt
          → Pays (IsInnerNode query mol) place (debt_in codes owed (Some old)) to (owed + codes.debt + maps.debt)
      maps_pay to is paid = as_one (IsInnerNode query mol) place to (owed + codes.debt + old.maps.debt) (owed + codes.debt + maps.debt) 1 refl
          (pays_more (IsInnerNode query mol) place to (owed + codes.debt) old.maps.debt maps.debt 1
          (pays_lifted (IsMapNode old.maps.graph old.maps.mol) (IsInnerNode query mol) old.code.items old.maps.place maps.place place to old.maps.debt maps.debt 1
          (for_one (IsMapNode old.maps.graph old.maps.mol) old.maps.place maps.place old.maps.debt maps.debt paid) node over under up))
        where
          node : (xs : List ℕ) → IsMapNode old.maps.graph old.maps.mol xs → IsInnerNode query mol (old.code.items ++ xs)
          node xs has =
              let has' = subst (λ (m : Molecule). IsMapNode old.maps.graph m xs) stands.left.by.mol_is has in
              inr (record {
                code = old.code.items;
                atoms = xs;
                graph = old.maps.graph;
                chosen = is_code;
                expanded = stands.left.by.of.is;
                few = has'.few;
                within = has'.within;
                distinct = has'.distinct;
                whole = refl;
              })

          over : (xs : List ℕ) → IsMapNode old.maps.graph old.maps.mol xs → IsBelow old.maps.place xs → IsBelow place (old.code.items ++ xs)
          over xs has above = subst (λ (zs : List ℕ). IsBelow zs (old.code.items ++ xs)) (sym stands.by) (below_behind old.code.items old.maps.place xs above)

          under : (xs : List ℕ) → IsMapNode old.maps.graph old.maps.mol xs → (IsBelow maps.place xs → ⊥) → IsBelow to (old.code.items ++ xs) → ⊥
          under xs has not above = not (behind_same old.code.items maps.place xs (subst (λ (zs : List ℕ). IsBelow zs (old.code.items ++ xs)) is above))

          up : IsBelow to place → ⊥
          up below = paid.up (behind_same old.code.items maps.place old.maps.place
              (subst (λ (zs : List ℕ). IsBelow (old.code.items ++ maps.place) zs) stands.by (subst (λ (zs : List ℕ). IsBelow zs place) is below)))

      -- the next hit is taken out
      item_out : (n : ℕ) → IsTurnOfMaps old.maps maps Item → TakesOut query mol place codes owed (Some old) codes owed (Some with_maps) n n
      item_out n turn =
          let hit = turn.0.0 in
          let next = turn.0.1 in
          let taken = taken_here query mol place codes stands.left.query_is old stands.left.by hit (old.code.items ++ hit) with_maps next.least refl refl next.graph next.mol next.place
          stands.left.by.of.asked stands.left.by.of.need in
          record {
            numbers = old.code.items ++ hit;
            at = taken.at;
            least = taken.least;
            stands = record { left = taken.left; by = sym taken.at };
            begun = begun_none (IsCodeFrom query mol place) codes.place n n refl;
            for_it = record { code = old.code.items; hit = hit; whole = refl; placed = stands.left.by.placed; begun_for = inr (refl, stands.left.by.placed) };
            pays = maps_pay ((old.code.items ++ hit) ++ 0 ∷ []) (sym taken.at) turn.1;
          }

      -- or the place moves
      moved_on : QueryFits query → (n : ℕ) → IsTurnOfMaps old.maps maps Moved → MovesTo query mol place codes owed (Some old) codes owed (Some with_maps) n n
      unfolding begun_none
      moved_on fits n turn =
          let to = old.code.items ++ maps.place in
          let pays = maps_pay to refl turn.1 in
          record {
            to = to;
            higher = inr (pays.up, refl);
            stands = record {
              left = record {
                query_is = stands.left.query_is;
                by = record {
                  placed = stands.left.by.placed;
                  of = record {
                    is = subst (λ (g : GraphView). IsExpansion query old.code.items g) (sym turn.0.graph) stands.left.by.of.is;
                    asked = subst (λ (g : GraphView). AreAsked g old.asked) (sym turn.0.graph) stands.left.by.of.asked;
                    need = subst (λ (g : GraphView). IsNeedOf g old.need) (sym turn.0.graph) stands.left.by.of.need;
                  };
                  mol_is = turn.0.mol ∙ stands.left.by.mol_is;
                  at = at_back (IsValid query) (HitsBehind query mol) apart old.code.items maps.place at_code.is;
                };
              };
              by = refl;
            };
            same = same_occurrences place to
                (same_backs (IsValid query) (HitsBehind query mol) apart place old.code.items maps.place
                (backs_same (IsValid query) (HitsBehind query mol) place old.code.items old.maps.place maps.place at_code (same_hits turn.0.same)) pays.up);
            short = λ few. (let both = graph_short query fits old.code.items old.maps.graph stands.left.by.of.is in
                omega (arith, both, turn.0.few, length-append old.code.items maps.place));
            begun = begun_none (IsCodeFrom query mol place) codes.place n n refl;
            up_to = λ code held. absurd held;
            since = λ open' code e. inr (refl, e);
            pays = pays;
          }
        where
          same_hits : SameFrom (IsHit old.maps.graph old.maps.mol) old.maps.place maps.place → SameFrom (HitsBehind query mol old.code.items) old.maps.place maps.place
          same_hits same = same_of (IsHit old.maps.graph old.maps.mol) (HitsBehind query mol old.code.items)
              (λ hit is. subst (λ (m : Molecule). IsHit old.maps.graph m hit) (sym stands.left.by.mol_is) (behind_hits query mol old.code.items old.maps.graph stands.left.by.of.is hit is))
              old.maps.place maps.place same

  pub turn_item : (place : List ℕ) (codes : CodesLeft) (owed : ℕ) (old : Open) → StandsIn query mol place codes owed (Some old) → (open' : Option Open) (n : ℕ) → TurnsMaps old open' Item
      → TakesOut query mol place codes owed (Some old) codes owed open' n n
  turn_item place codes owed old stands open' n t =
      subst (λ (m : Option Open). TakesOut query mol place codes owed (Some old) codes owed m n n) (sym t.is) (item_out place codes owed old stands t.maps n t.turn_is)

  pub turn_moved : QueryFits query → (place : List ℕ) (codes : CodesLeft) (owed : ℕ) (old : Open) → StandsIn query mol place codes owed (Some old)
      → (open' : Option Open) (n : ℕ) → TurnsMaps old open' Moved
      → MovesTo query mol place codes owed (Some old) codes owed open' n n
  turn_moved fits place codes owed old stands open' n t =
      subst (λ (m : Option Open). MovesTo query mol place codes owed (Some old) codes owed m n n) (sym t.is) (moved_on place codes owed old stands t.maps fits n t.turn_is)

  -- ---- where no code is open

  -- how far the place goes, and what is left from there
  record IsShutTo (place : List ℕ) (codes : CodesLeft) (owed : ℕ) : Type 0 where
    to : List ℕ
    higher : IsHigher place codes.place to
    stands : StandsIn query mol to codes owed None
    same : SameFrom (IsOccurrence query mol) place to

  shut_to : (place : List ℕ) (codes : CodesLeft) (owed : ℕ) → Leaves query mol place codes None → IsShut query place codes owed → IsShutTo place codes owed
  shut_to place codes owed left shut =
      elim (below_or_not codes.place place) [
        | inl below ↦ record { to = place; higher = inl (below, refl); stands = record { left = left; by = shut }; same = same_here (IsOccurrence query mol) place }
        | inr not ↦ record {
          to = codes.place;
          higher = inr (not, refl);
          stands = record {
            left = record { query_is = left.query_is; by = fronts_from (IsValid query) (HitsBehind query mol) place codes.place left.by not };
            by = record { over = λ node begins above. above; kept = λ code back valid late e. none_behind_it code back (subst (λ (zs : List ℕ). IsBelow code zs → ⊥) e late) };
          };
          same = same_occurrences place codes.place (same_fronts (IsValid query) (HitsBehind query mol) place codes.place left.by not);
        }
      ]
    where
      none_behind_it : (code back : List ℕ) → (IsBelow code (code ++ back) → ⊥) → length back ≤ owed
      none_behind_it code [] late = omega arith
      none_behind_it code (x ∷ back) late = absurd (late (below_more code x back))

  module _ (place : List ℕ) (old : CodesLeft) (owed : ℕ) (stands : StandsIn query mol place old owed None) where
    -- what a turn of the codes pays, from the place to another
    codes_pay : (at to : List ℕ) (debt owing turns : ℕ) → Pays (BeginsCode old.query) old.place old.debt at debt → (IsBelow to place → ⊥)
        → ((xs : List ℕ) → BeginsCode query xs → (IsBelow at xs → ⊥) → IsBelow to xs → ⊥) → owing + turns ≤ owed + (debt + 1)
        → PaysFor (IsInnerNode query mol) place (debt_in old owed None) to owing turns
    codes_pay at to debt owing turns paid up under few = record {
      passed = paid.passed;
      stand = stand_lifted (BeginsCode query) (IsInnerNode query mol) [] old.place at place to paid.passed
          (subst (λ (q : QueryView). StandBetween (BeginsCode q) old.place at paid.passed) stands.left.query_is paid.stand)
          (λ xs begins. inl begins) (λ xs begins above. stands.by.over xs begins above) under;
      up = up;
      pays = omega (arith, few, paid.pays);
    }

    -- none is taken out
    pub codes_moved : (new : CodesLeft) (n : ℕ) → IsMoved old new → Pays (BeginsCode old.query) old.place old.debt new.place new.debt
        → MovesTo query mol place old owed None new owed None n n
    unfolding begun_over
    codes_moved new n moved paid =
        let to = shut_to place new owed left shut in
        record {
          to = to.to;
          higher = to.higher;
          stands = to.stands;
          same = to.same;
          short = λ few. short to.to to.higher few;
          begun = begun_over (IsCodeFrom query mol place) old.place new.place n n paid.up refl;
          up_to = λ code held. absurd held;
          since = λ open'. absurd (let no : is_open None ≡ true = open' in cc);
          pays = as_one (IsInnerNode query mol) place to.to (debt_in old owed None) (debt_in new owed None) 1 refl
              (codes_pay new.place to.to new.debt (owed + new.debt) 1 paid (higher_here place new.place to.to to.higher)
              (λ xs begins not above. not (below_later new.place to.to xs (higher_to place new.place to.to to.higher) above)) (omega arith));
        }
      where
        same : SameFrom (IsValid query) old.place new.place
        same = subst (λ (q : QueryView). SameFrom (IsValid q) old.place new.place) stands.left.query_is moved.same

        left : Leaves query mol place new None
        left = record {
          query_is = moved.query ∙ stands.left.query_is;
          by = goes_up (IsValid query) (HitsBehind query mol) place old.place new.place stands.left.by paid.up (λ front back valid its not under. same.on front valid not under);
        }

        shut : IsShut query place new owed
        shut = record {
          over = λ node begins above. stands.by.over node begins (below_later old.place new.place node paid.up above);
          kept = λ code back valid late e. stands.by.kept code back valid (not_below_through code new.place old.place late paid.up) e;
        }

        short : (to : List ℕ) → IsHigher place new.place to → length place ≤ 513 → length to ≤ 513
        short to (inl stays) few = omega (arith, ap length stays.1, few)
        short to (inr moves) few = omega (arith, ap length moves.1, moved.few)

    -- ---- a code is taken out

    module _ (taken : CodesLeft) (code : List ℕ) (next : IsNext old taken code) (paid : Pays (BeginsCode old.query) old.place old.debt taken.place taken.debt) where
      valid : IsValid query code
      valid = subst (λ (q : QueryView). IsValid q code) stands.left.query_is next.least.has

      is_a_code : IsCode query 0 code
      is_a_code = code_of_valid query code valid

      -- what is passed by the turn stands up to the code
      up_to_code : (to xs : List ℕ) → (IsBelow to code → ⊥) → BeginsCode query xs → (IsBelow taken.place xs → ⊥) → IsBelow to xs → ⊥
      up_to_code to xs up begins not above =
          node_up_to query code xs is_a_code begins (subst (λ (zs : List ℕ). IsBelow zs xs → ⊥) next.place not) (below_later code to xs up above)

      -- the place begins with the code, or is no higher
      from_code : IsLeftBy place code
      from_code = stands.left.by.fronts code valid next.least.from

      -- none is open, and the codes are behind it
      passed_on : (new : CodesLeft) (before after : ℕ) → Leaves query mol place new None → IsBelow code new.place → new.debt ≤ taken.debt → length new.place ≤ 513
          → Begun (IsCodeFrom query mol place) old.place new.place before after → MovesTo query mol place old owed None new 0 None before after
      passed_on new before after left over fewer few begun =
          let to = shut_to place new 0 left shut in
          let up : IsBelow to.to code → ⊥ = λ below. over_not code new.place over (below_later new.place to.to code (higher_to place new.place to.to to.higher) below) in
          record {
            to = to.to;
            higher = to.higher;
            stands = to.stands;
            same = to.same;
            short = λ few'. short to.to to.higher few';
            begun = begun;
            up_to = up_to_higher (IsCodeFrom query mol place) old.place new.place to.to before after begun (higher_to place new.place to.to to.higher);
            since = λ open'. absurd (let no : is_open None ≡ true = open' in cc);
            pays = as_one (IsInnerNode query mol) place to.to (debt_in old owed None) (debt_in new 0 None) 1 refl
                (codes_pay taken.place to.to taken.debt (0 + new.debt) 1 paid (higher_here place new.place to.to to.higher)
                (λ xs begins not above. up_to_code to.to xs up begins not above) (omega (arith, fewer)));
          }
        where
          shut : IsShut query place new 0
          shut = record {
            over = λ node begins above. stands.by.over node begins (below_later old.place code node next.least.from (below_through code new.place node over above));
            kept = λ other back its late e. absurd (none other back its late e);
          }
            where
              none : (other back : List ℕ) → IsValid query other → (IsBelow other new.place → ⊥) → place ≡ other ++ back → ⊥
              none other back its late e =
                  let later : IsBelow code other = below_what_isnt code other new.place over late in
                  elim from_code [
                    | inl not ↦ not (subst (λ (zs : List ℕ). IsBelow code zs) (sym e) (below_what_isnt code (other ++ back) other later (not_below_front other back)))
                    | inr begins ↦
                        let same = same_code query code other begins.0 back is_a_code (code_of_valid query other its) (sym begins.1 ∙ e) in
                        not_below_itself code (subst (λ (zs : List ℕ). IsBelow code zs) same later)
                  ]

          short : (to : List ℕ) → IsHigher place new.place to → length place ≤ 513 → length to ≤ 513
          short to (inl stays) few' = omega (arith, ap length stays.1, few')
          short to (inr moves) few' = omega (arith, ap length moves.1, few)

      -- ---- it is opened

      module _ (new : CodesLeft) (open' : Option Open) (before after : ℕ) (b : IsBegunAt query mol place taken new open' before after) where
        abbrev opened : Open
        opened = record { maps = b.maps; code = b.expansion.code; asked = b.expansion.asked; need = b.expansion.need }

        code_is : b.expansion.code.items ≡ code
        code_is = before_zero b.expansion.code.items code (sym b.placed ∙ next.place)

        at_new : new.place ≡ code ++ 0 ∷ []
        at_new = ap (λ (c : CodesLeft). c.place) b.same ∙ next.place

        is_opened : IsOpenedAt query mol place old new open' before after
        is_opened = begun_opened query mol place old taken new open' before after stands.left code next b

        -- and its hits are to come, from the place on
        leaves : Leaves query mol place new (Some opened)
        leaves = subst (λ (m : Option Open). Leaves query mol place new m) b.opened is_opened.left

        abbrev to_it : List ℕ
        to_it = b.expansion.code.items ++ b.maps.place

        begun_it : Holds is_opened.begun.begun code
        begun_it =
            let same : is_opened.code ≡ code = before_zero is_opened.code code (sym (is_opened.for_it open_it).placed ∙ at_new) in
            subst (Holds is_opened.begun.begun) same (is_opened.for_it open_it).held
          where
            open_it : is_open open' ≡ true
            open_it = ap is_open b.opened

        place_it : to_it ≡ code ++ b.back
        place_it = ap (λ (zs : List ℕ). zs ++ b.maps.place) code_is ∙ ap (λ (zs : List ℕ). code ++ zs) b.made.place_is

        behind_it : IsBehind code place b.back
        behind_it = subst (λ (zs : List ℕ). IsBehind zs place b.back) code_is b.behind

        up_it : IsBelow to_it place → ⊥
        up_it below = by_behind behind_it (subst (λ (zs : List ℕ). IsBelow zs place) place_it below)
          where
            by_behind : IsBehind code place b.back → IsBelow (code ++ b.back) place → ⊥
            by_behind (inl whole) below = not_below_itself place (subst (λ (zs : List ℕ). IsBelow zs place) (sym whole) below)
            by_behind (inr (none, apart)) below = elim from_code [
              | inl not ↦ not (subst (λ (zs : List ℕ). IsBelow zs place) (append-nil code) (subst (λ (zs : List ℕ). IsBelow (code ++ zs) place) none below))
              | inr begins ↦ apart begins.0 begins.1
            ]

        over_it : IsBelow to_it code → ⊥
        over_it below = not_below_front code b.back (subst (λ (zs : List ℕ). IsBelow zs code) place_it below)

        stands_it : StandsIn query mol to_it new 0 (Some opened)
        stands_it = record {
          left = record {
            query_is = leaves.query_is;
            by = record {
              placed = leaves.by.placed;
              of = leaves.by.of;
              mol_is = leaves.by.mol_is;
              at = at_back (IsValid query) (HitsBehind query mol) apart b.expansion.code.items b.maps.place leaves.by.at.is;
            };
          };
          by = refl;
        }

        same_it : SameFrom (IsOccurrence query mol) place to_it
        same_it = same_occurrences place to_it (same_backs (IsValid query) (HitsBehind query mol) apart place b.expansion.code.items b.maps.place leaves.by.at up_it)

        -- what its hits owe
        back_few : length b.back ≤ owed
        back_few = elim behind_it [ inl whole ↦ stands.by.kept code b.back valid next.least.from whole | inr none ↦ omega (arith, ap length none.0) ]

        pay_it : (turns : ℕ) → b.maps.debt + turns ≤ length b.back + 1 → PaysFor (IsInnerNode query mol) place (debt_in old owed None) to_it (debt_in new 0 (Some opened)) turns
        pay_it turns few =
            codes_pay taken.place to_it taken.debt (0 + new.debt + b.maps.debt) turns paid up_it (λ xs begins not above. up_to_code to_it xs over_it begins not above)
            (omega (arith, few, back_few, ap (λ (c : CodesLeft). c.debt) b.same))

        short_it : QueryFits query → length place ≤ 513 → length to_it ≤ 513
        short_it fits few = elim behind_it [
          | inl whole ↦ omega (arith, ap length place_it, ap length whole, few)
          | inr none ↦ omega (arith, ap length place_it, length-append code b.back, ap length none.0, code_short query fits code valid)
        ]

        -- the graph has atoms: none is taken out
        opened_on : QueryFits query → false ≡ (length b.expansion.graph.atoms == 0) → MovesTo query mol place old owed None new 0 open' before after
        opened_on fits some = record {
          to = to_it;
          higher = subst (λ (m : Option Open). IsHigher place (reached new m) to_it) (sym b.opened) (inr (up_it, refl));
          stands = subst (λ (m : Option Open). StandsIn query mol to_it new 0 m) (sym b.opened) stands_it;
          same = same_it;
          short = short_it fits;
          begun = is_opened.begun;
          up_to = up_to_place (IsCodeFrom query mol place) old.place code new.place to_it before after is_opened.begun at_new over_it;
          since = λ _ other e. inl (subst (Holds is_opened.begun.begun) (before_zero code other (sym at_new ∙ e)) begun_it);
          pays = subst (λ (m : Option Open). Pays (IsInnerNode query mol) place (debt_in old owed None) to_it (debt_in new 0 m)) (sym b.opened)
              (as_one (IsInnerNode query mol) place to_it (debt_in old owed None) (debt_in new 0 (Some opened)) 1 refl
              (pay_it 1 (let few = rw (sym some) at b.made.few in omega (arith, few))));
        }

        -- it has none: its one hit is taken out
        bare_few : b.maps.debt + 0 ≤ length b.back + 1
        bare_few = few_by (length b.expansion.graph.atoms == 0) b.made.few
          where
            few_by : (t : Bool) → b.maps.debt ≤ length b.back + (if t then 1 else 0) → b.maps.debt + 0 ≤ length b.back + 1
            few_by true few = omega (arith, few)
            few_by false few = omega (arith, few)

        bare_out : (last : Option Open) → TurnsMaps opened last Item → TakesOut query mol place old owed None new 0 last before after
        bare_out last t =
            let one = turn_item to_it new 0 opened stands_it last after t in
            record {
              numbers = one.numbers;
              at = one.at;
              least = least_through (IsOccurrence query mol) place to_it one.numbers same_it one.least;
              stands = one.stands;
              begun = is_opened.begun;
              for_it = record {
                code = one.for_it.code;
                hit = one.for_it.hit;
                whole = one.for_it.whole;
                placed = one.for_it.placed;
                begun_for = inl (subst (Holds is_opened.begun.begun) (before_zero code one.for_it.code (sym at_new ∙ one.for_it.placed)) begun_it);
              };
              pays = as_one (IsInnerNode query mol) place (one.numbers ++ 0 ∷ []) (debt_in old owed None) (debt_in new 0 last) (0 + 1) refl
                  (pays_on (IsInnerNode query mol) place to_it (one.numbers ++ 0 ∷ []) (debt_in old owed None) (debt_in new 0 (Some opened)) (debt_in new 0 last) 0 1 (pay_it 0 bare_few)
                  (for_one (IsInnerNode query mol) to_it (one.numbers ++ 0 ∷ []) (debt_in new 0 (Some opened)) (debt_in new 0 last) one.pays));
            }

        -- or the place moves
        bare_on : QueryFits query → (last : Option Open) → TurnsMaps opened last Moved → MovesTo query mol place old owed None new 0 last before after
        bare_on fits last t =
            let one = turn_moved fits to_it new 0 opened stands_it last after t in
            record {
              to = one.to;
              higher = higher_on one.to one.higher reached_up (λ below. not_below_through (reached new last) to_it place reached_up up_it below);
              stands = one.stands;
              same = same_through (IsOccurrence query mol) place to_it one.to same_it one.same;
              short = λ few. one.short (short_it fits few);
              begun = is_opened.begun;
              up_to = up_to_place (IsCodeFrom query mol place) old.place code new.place one.to before after is_opened.begun at_new
                  (λ below. not_below_through one.to to_it code one.pays.up over_it below);
              since = λ _ other e. inl (subst (Holds is_opened.begun.begun) (before_zero code other (sym at_new ∙ e)) begun_it);
              pays = as_one (IsInnerNode query mol) place one.to (debt_in old owed None) (debt_in new 0 last) (0 + 1) refl
                  (pays_on (IsInnerNode query mol) place to_it one.to (debt_in old owed None) (debt_in new 0 (Some opened)) (debt_in new 0 last) 0 1 (pay_it 0 bare_few)
                  (for_one (IsInnerNode query mol) to_it one.to (debt_in new 0 (Some opened)) (debt_in new 0 last) one.pays));
            }
          where
            reached_up : IsBelow (reached new last) to_it → ⊥
            reached_up below = t.turn_is.1.up (behind_same b.expansion.code.items t.maps.place b.maps.place (subst (λ (m : Option Open). IsBelow (reached new m) to_it) t.is below))

            higher_on : (to : List ℕ) → IsHigher to_it (reached new last) to → (IsBelow (reached new last) to_it → ⊥) → (IsBelow (reached new last) place → ⊥) → IsHigher place (reached new last) to
            higher_on to (inl stays) not up = absurd (not stays.0)
            higher_on to (inr moves) not up = inr (up, moves.1)

        -- or none is left, and none is open
        bare_end : QueryFits query → (last : Option Open) → last ≡ None → IsLeastFrom b.maps.place (IsHit b.maps.graph b.maps.mol) None → MovesTo query mol place old owed None new 0 last before after
        bare_end fits last shut none =
            subst (λ (m : Option Open). MovesTo query mol place old owed None new 0 m before after) (sym shut)
            (passed_on new before after (none_here query mol place new leaves.query_is opened leaves.by none)
            (subst (λ (zs : List ℕ). IsBelow code zs) (sym at_new) (below_after code))
            (omega (arith, ap (λ (c : CodesLeft). c.debt) b.same))
            (omega (arith, ap length at_new, length-append code (0 ∷ []), code_short query fits code valid))
            is_opened.begun)

      -- ---- what it comes to

      pub shown_on : QueryFits query → (new : CodesLeft) (open' : Option Open) (before after : ℕ) → IsCodeShown query mol place taken new open' before after false
          → MovesTo query mol place old owed None new 0 open' before after
      shown_on fits new open' before after (inl (is, r)) =
          let code_is : r.code ≡ code = before_zero r.code code (sym r.placed ∙ next.place) in
          let next' = subst (IsNext old taken) (sym code_is) next in
          let opened = front_passed query fits mol place old taken r.code next' new r.n r.none r.at r.behind r.made open' before after r.same_count stands.left r.shut in
          let over = subst (λ (zs : List ℕ). IsBelow zs new.place) code_is
          (behind_over query fits mol place old taken r.code next' new r.n r.none r.at r.behind r.made (subst (IsValid query) (sym code_is) valid)) in
          let none : new.debt ≡ 0 = r.made.unowed (λ begins. behind_front_none query fits (take r.n r.code) r.at r.behind
          (subst (λ (q : QueryView). BeginsCode q r.at) (next.query ∙ stands.left.query_is) begins)) in
          subst (λ (m : Option Open). MovesTo query mol place old owed None new 0 m before after) (sym r.shut)
          (passed_on new before after (subst (λ (m : Option Open). Leaves query mol place new m) r.shut opened.left) over (omega (arith, none))
          (omega (
            arith,
            ap length r.made.place_is,
            ap length r.behind,
            length-append (take r.n r.code) (4294967295 ∷ []),
            few_taken r.n r.code,
            ap length code_is,
            code_short query fits code valid,
          ))
          opened.begun)
      shown_on fits new open' before after (inr (inl (is, h))) =
          let placed : new.place ≡ code ++ 0 ∷ [] = ap (λ (c : CodesLeft). c.place) h.same ∙ next.place in
          let opened = hitless_passed query mol place old taken new open' before after stands.left code next h in
          subst (λ (m : Option Open). MovesTo query mol place old owed None new 0 m before after) (sym h.shut)
          (passed_on new before after (subst (λ (m : Option Open). Leaves query mol place new m) h.shut opened.left)
          (subst (λ (zs : List ℕ). IsBelow code zs) (sym placed) (below_after code))
          (omega (arith, ap (λ (c : CodesLeft). c.debt) h.same))
          (omega (arith, ap length placed, length-append code (0 ∷ []), code_short query fits code valid))
          opened.begun)
      shown_on fits new open' before after (inr (inr b)) = opened_on new open' before after b.0 fits b.1

      pub bare_item : (new : CodesLeft) (open' last : Option Open) (before after : ℕ) → IsCodeShown query mol place taken new open' before after true → IsTurnHere open' last Item
          → TakesOut query mol place old owed None new 0 last before after
      bare_item new open' last before after (inl r) t = absurd (let no = r.0 in cc)
      bare_item new open' last before after (inr (inl h)) t = absurd (let no = h.0 in cc)
      bare_item new open' last before after (inr (inr b)) t = bare_out new open' before after b.0 last (subst (λ (m : Option Open). IsTurnHere m last Item) b.0.opened t)

      pub bare_moved : QueryFits query → (new : CodesLeft) (open' last : Option Open) (before after : ℕ) → IsCodeShown query mol place taken new open' before after true → IsTurnHere open' last Moved
          → MovesTo query mol place old owed None new 0 last before after
      bare_moved fits new open' last before after (inl r) t = absurd (let no = r.0 in cc)
      bare_moved fits new open' last before after (inr (inl h)) t = absurd (let no = h.0 in cc)
      bare_moved fits new open' last before after (inr (inr b)) t = bare_on new open' before after b.0 fits last (subst (λ (m : Option Open). IsTurnHere m last Moved) b.0.opened t)

      pub bare_none : QueryFits query → (new : CodesLeft) (open' last : Option Open) (before after : ℕ) → IsCodeShown query mol place taken new open' before after true → IsTurnHere open' last End
          → MovesTo query mol place old owed None new 0 last before after
      bare_none fits new open' last before after (inl r) t = absurd (let no = r.0 in cc)
      bare_none fits new open' last before after (inr (inl h)) t = absurd (let no = h.0 in cc)
      bare_none fits new open' last before after (inr (inr b)) t =
          let t' = subst (λ (m : Option Open). IsTurnHere m last End) b.0.opened t in
          bare_end new open' before after b.0 fits last t'.0 t'.1

  -- ---- a turn behind the code that was open

  -- what it owed is owed no more
  behind_pays : (place to : List ℕ) (codes : CodesLeft) (owed : ℕ) (old : Open) (owing : ℕ) → Pays (IsInnerNode query mol) place (debt_in codes owed None) to owing
      → Pays (IsInnerNode query mol) place (debt_in codes owed (Some old)) to owing
  behind_pays place to codes owed old owing p = record { passed = p.passed; stand = p.stand; up = p.up; pays = omega (arith, p.pays) }

  pub turn_behind : (place : List ℕ) (codes : CodesLeft) (owed : ℕ) (old : Open) (new : CodesLeft) (owing : ℕ) (open' : Option Open) (before after : ℕ) (turn : Turn)
      → IsTurnIn query mol place codes owed None new owing open' before after turn → IsTurnIn query mol place codes owed (Some old) new owing open' before after turn
  turn_behind place codes owed old new owing open' before after Item t = record {
    numbers = t.numbers;
    at = t.at;
    least = t.least;
    stands = t.stands;
    begun = t.begun;
    for_it = record {
      code = t.for_it.code;
      hit = t.for_it.hit;
      whole = t.for_it.whole;
      placed = t.for_it.placed;
      begun_for = elim t.for_it.begun_for [ inl here ↦ inl here | inr was ↦ absurd (let no : is_open None ≡ true = was.0 in cc) ];
    };
    pays = behind_pays place (t.numbers ++ 0 ∷ []) codes owed old (debt_in new owing open') t.pays;
  }
  turn_behind place codes owed old new owing open' before after Moved t = record {
    to = t.to;
    higher = t.higher;
    stands = t.stands;
    same = t.same;
    short = t.short;
    begun = t.begun;
    up_to = t.up_to;
    since = λ is code e. elim (t.since is code e) [ inl here ↦ inl here | inr was ↦ absurd (let no : is_open None ≡ true = was.0 in cc) ];
    pays = behind_pays place t.to codes owed old (debt_in new owing open') t.pays;
  }
  turn_behind place codes owed old new owing open' before after End t = t

  -- ---- the code that is open, where one is

  pub item_here : (place : List ℕ) (codes : CodesLeft) (owed : ℕ) (opened open' : Option Open) (n : ℕ) → StandsIn query mol place codes owed opened → IsTurnHere opened open' Item
      → TakesOut query mol place codes owed opened codes owed open' n n
  item_here place codes owed None open' n stands t = absurd t
  item_here place codes owed (Some old) open' n stands t = turn_item place codes owed old stands open' n t

  pub moved_here : QueryFits query → (place : List ℕ) (codes : CodesLeft) (owed : ℕ) (opened open' : Option Open) (n : ℕ) → StandsIn query mol place codes owed opened → IsTurnHere opened open' Moved
      → MovesTo query mol place codes owed opened codes owed open' n n
  moved_here fits place codes owed None open' n stands t = absurd t
  moved_here fits place codes owed (Some old) open' n stands t = turn_moved fits place codes owed old stands open' n t

  pub closed_here : (place : List ℕ) (codes : CodesLeft) (owed : ℕ) (opened open' : Option Open) → StandsIn query mol place codes owed opened → IsTurnHere opened open' End
      → StandsIn query mol place codes owed open'
  closed_here place codes owed None open' stands t = subst (StandsIn query mol place codes owed) (sym t) stands
  closed_here place codes owed (Some old) open' stands t = subst (StandsIn query mol place codes owed) (sym t.0) (closed place codes owed old stands t.1)

  pub shut_here : (opened open' : Option Open) → IsTurnHere opened open' End → open' ≡ None
  shut_here None open' t = t
  shut_here (Some old) open' t = t.0

  pub behind_here : (place : List ℕ) (codes : CodesLeft) (owed : ℕ) (opened shut : Option Open) (new : CodesLeft) (owing : ℕ) (open' : Option Open) (before after : ℕ) (turn : Turn)
      → IsTurnHere opened shut End → IsTurnIn query mol place codes owed shut new owing open' before after turn
      → IsTurnIn query mol place codes owed opened new owing open' before after turn
  behind_here place codes owed None shut new owing open' before after turn t its =
      subst (λ (m : Option Open). IsTurnIn query mol place codes owed m new owing open' before after turn) t its
  behind_here place codes owed (Some old) shut new owing open' before after turn t its =
      turn_behind place codes owed old new owing open' before after turn (subst (λ (m : Option Open). IsTurnIn query mol place codes owed m new owing open' before after turn) t.0 its)

-- where no code is open and none is left
pub none_to_open : (query : QueryView) (mol : Molecule) (place : List ℕ) (old new : CodesLeft) (n : ℕ) → Leaves query mol place old None → IsLeastFrom old.place (IsValid old.query) None → new ≡ old
    → LeavesNone query mol place old new n n
none_to_open query mol place old new n left none same =
    let r = none_left query mol place old new n left.by (subst (λ (q : QueryView). IsLeastFrom old.place (IsValid q) None) left.query_is none) same in
    record { none = r.none; begun = r.begun }
