-- The occurrences of a query in one molecule, code by code.
--     from_start                  no code is open at the start
--     none_here, taken_here       nothing more, or the next hit, of the code that is open
--     none_left, begun_opened, hitless_passed     no code left, or the next one, which is opened or passed
use Rattle.std.proofs.Common.{◌≡◌, ℕ, ◌+◌, inl, inr, Bool, true, false, if◌then◌else◌, List, [], ◌∷◌, ◌++◌, All, drop, Option, Some, None, refl, sym, ap, subst, ◌∙◌, append-nil, append_assoc}
use Rattle.mk_text.specs.Rising.{IsBelow, IsLeast, IsLeastFrom}
use Rattle.mk_text.proofs.ForCallers.{below_after, below_joined, below_or_not, below_through, between_none, not_below_after, not_below_itself}
use Rattle.mk_model.specs.Expansions.{IsExpansion}
use Rattle.mk_model.specs.Graphs.{GraphView}
use Rattle.mk_model.specs.Hits.{IsHit}
use Rattle.mk_model.specs.Keys.{IsOccurrence}
use Rattle.mk_model.specs.Logic.{IsValid}
use Rattle.mk_model.specs.Molecules.{Molecule}
use Rattle.mk_model.specs.Queries.{QueryView}
use Rattle.mk_model.specs.Screens.{IsNeedOf}
use Rattle.mk_model.proofs.ForCallers.{code_of_valid}
use Rattle.mk_choice.specs.Codes.{CodesLeft, IsNext}
use Rattle.mk_choice.proofs.ForCallers.{no_valid_begins_another}
use Rattle.mk_expand.proofs.ForCallers.{one_graph}
use Rattle.mk_counts.specs.Asked.{AreAsked}
use Rattle.mk_expansions.specs.declared.expansions.Expansion.{Expansion}
use Rattle.mk_search.specs.declared.occurrences.Open.{Open}
use Rattle.mk_search.specs.Begins.{IsLeftBy}
use Rattle.mk_search.specs.Begun.{Begun}
use Rattle.mk_expansions.specs.Kept.{IsKept}
use Rattle.mk_search.specs.Levels.{AtBacks, AtFronts, IsPair}
use Rattle.mk_search.specs.Occurrences.{HitsBehind, IsCodeFrom, IsNoneOpened, IsOpenOf, IsOpenedAt, Leaves, LeavesBy, LeavesOpen, TakesHere, is_open}
use Rattle.mk_expansions.specs.Starts.{IsBehind, IsStart}
use Rattle.mk_search.specs.Turns.{IsBegunAt, IsHitless}
use Rattle.mk_search.proofs.BegunLemmas.{begun_none, begun_one, begun_over, not_after}
use Rattle.mk_search.proofs.LevelLemmas.{closes, ends, goes_up, longer, nested, opens, shorter, takes, takes_least}
use Rattle.mk_expansions.proofs.StartsLemmas.{back_is_above, before_zero, no_longer_code, none_below_start}

module _ (query : QueryView) (mol : Molecule) where
  -- ---- pairs

  -- a code and a hit behind it are an occurrence
  pair_is : (xs : List ℕ) → IsPair (IsValid query) (HitsBehind query mol) xs → IsOccurrence query mol xs
  pair_is xs pair = record {
    code = pair.front;
    hit = pair.back;
    graph = pair.is_back.graph;
    valid = pair.is_front;
    expanded = pair.is_back.expanded;
    hits = pair.is_back.hits;
    whole = pair.whole;
  }

  pub is_pair : (xs : List ℕ) → IsOccurrence query mol xs → IsPair (IsValid query) (HitsBehind query mol) xs
  is_pair xs occurs = record {
    front = occurs.code;
    back = occurs.hit;
    is_front = occurs.valid;
    is_back = record { graph = occurs.graph; expanded = occurs.expanded; hits = occurs.hits };
    whole = occurs.whole;
  }

  least_pair : (place xs : List ℕ) → IsLeast place (IsPair (IsValid query) (HitsBehind query mol)) xs → IsLeast place (IsOccurrence query mol) xs
  least_pair place xs least = record { has = pair_is xs least.has; from = least.from; least = λ other has not. least.least other (is_pair other has) not }

  no_pair : (place : List ℕ) → IsLeastFrom place (IsPair (IsValid query) (HitsBehind query mol)) None → IsLeastFrom place (IsOccurrence query mol) None
  no_pair place none other has not = none other (is_pair other has) not

  apart : (front more : List ℕ) → IsValid query front → IsValid query (front ++ more) → more ≡ []
  apart front more is its = no_valid_begins_another query front more is its

  -- ---- at the start

  from_start : (rest start : List ℕ) → IsStart query rest start → AtFronts (IsValid query) (HitsBehind query mol) rest start
  from_start rest start starts = record {
    below = λ code back is _ not under. not (none_below_start query rest start code back starts (code_of_valid query code is) under);
    above = λ code back is _ not apart. back_is_above query rest start code back [] starts (code_of_valid query code is) not (inr (refl, apart)) (λ below. below);
    first = λ code behind is e over. first_is starts code behind is e over;
    fronts = λ code is not. from_is starts code is not;
  }
    where
      first_is : IsStart query rest start → (code behind : List ℕ) → IsValid query code → rest ≡ code ++ behind → IsBelow start code → ⊥
      first_is (inr (same, none)) code behind is e over = none code behind (code_of_valid query code is) e
      first_is (inl (its, tail, whole)) code behind is e over =
          elim (nested start tail code behind (sym whole ∙ e)) [
            | longer more w ↦ (let same = no_longer_code query start code more its (code_of_valid query code is) w in not_below_itself start
                (subst (λ (zs : List ℕ). IsBelow start zs) same over))
            | shorter more w ↦ (let same = no_longer_code query code start more (code_of_valid query code is) its w in not_below_itself start
                (subst (λ (zs : List ℕ). IsBelow start zs) (sym same) over))
          ]

      from_is : IsStart query rest start → (code : List ℕ) → IsValid query code → (IsBelow code start → ⊥) → IsLeftBy rest code
      from_is (inr (same, none)) code is not = inl (subst (λ (zs : List ℕ). IsBelow code zs → ⊥) same not)
      from_is (inl (its, tail, whole)) code is not =
          elim (below_or_not code (start ++ (0 ∷ []))) [
            | inl near ↦ inr (tail, (let same = between_none start code not near in subst (λ (zs : List ℕ). rest ≡ zs ++ tail) same whole))
            | inr far ↦ inl (λ below. (
                let over = not_below_after start code far in
                let above = below_joined start code tail [] over
                (λ more e. (let same = no_longer_code query start code more its (code_of_valid query code is) e in not_below_itself start
                (subst (λ (zs : List ℕ). IsBelow start zs) same over))) in
                let above' : IsBelow rest code = subst (λ (zs : List ℕ). IsBelow zs code) (sym whole) (subst (λ (zs : List ℕ). IsBelow (start ++ tail) zs) (append-nil code) above) in
                not_below_itself code (below_through code rest code below above')
                ))
          ]

  pub leaves_start : (rest start : List ℕ) (codes : CodesLeft) → IsStart query rest start → codes.query ≡ query → codes.place ≡ start → Leaves query mol rest codes None
  leaves_start rest start codes starts of at =
      record { query_is = of; by = subst (λ (zs : List ℕ). AtFronts (IsValid query) (HitsBehind query mol) rest zs) (sym at) (from_start rest start starts) }

  -- ---- the code that is open

  -- behind the code stand the hits of its graph
  hits_behind : (code : List ℕ) (graph : GraphView) → IsExpansion query code graph → (hit : List ℕ) → IsHit graph mol hit → HitsBehind query mol code hit
  hits_behind code graph expanded hit is = record { graph = graph; expanded = expanded; hits = is }

  pub behind_hits : (code : List ℕ) (graph : GraphView) → IsExpansion query code graph → (hit : List ℕ) → HitsBehind query mol code hit → IsHit graph mol hit
  behind_hits code graph expanded hit is = subst (λ (g : GraphView). IsHit g mol hit) (one_graph query code is.graph graph is.expanded expanded) is.hits

  module _ (place : List ℕ) (codes : CodesLeft) (of : codes.query ≡ query) (open' : Open) (o : LeavesOpen query mol place codes open') where
    -- the same, of the matcher's molecule
    none_of : IsLeastFrom open'.maps.place (IsHit open'.maps.graph open'.maps.mol) None → IsLeastFrom open'.maps.place (HitsBehind query mol open'.code.items) None
    none_of none hit is not = none hit (subst (λ (m : Molecule). IsHit open'.maps.graph m hit) (sym o.mol_is) (behind_hits open'.code.items open'.maps.graph o.of.is hit is)) not

    least_of : (hit : List ℕ) → IsLeast open'.maps.place (IsHit open'.maps.graph open'.maps.mol) hit → IsLeast open'.maps.place (HitsBehind query mol open'.code.items) hit
    least_of hit least = record {
      has = hits_behind open'.code.items open'.maps.graph o.of.is hit (subst (λ (m : Molecule). IsHit open'.maps.graph m hit) o.mol_is least.has);
      from = least.from;
      least = λ other has not. least.least other
          (subst (λ (m : Molecule). IsHit open'.maps.graph m other) (sym o.mol_is) (behind_hits open'.code.items open'.maps.graph o.of.is other has)) not;
    }

    pub none_here : IsLeastFrom open'.maps.place (IsHit open'.maps.graph open'.maps.mol) None → Leaves query mol place codes None
    none_here none = record {
      query_is = of;
      by = subst (λ (zs : List ℕ). AtFronts (IsValid query) (HitsBehind query mol) place zs) (sym o.placed)
          (closes (IsValid query) (HitsBehind query mol) apart place open'.code.items open'.maps.place o.at (none_of none));
    }

    least_here : (hit : List ℕ) → IsLeast open'.maps.place (IsHit open'.maps.graph open'.maps.mol) hit → IsLeast place (IsOccurrence query mol) (open'.code.items ++ hit)
    least_here hit least = least_pair place (open'.code.items ++ hit)
        (takes_least (IsValid query) (HitsBehind query mol) apart place open'.code.items open'.maps.place o.at hit (least_of hit least))

    left_here : (hit : List ℕ) (new : Open) → new.code.items ≡ open'.code.items → new.maps.graph ≡ open'.maps.graph → new.maps.mol ≡ open'.maps.mol → new.maps.place ≡ hit ++ 0 ∷ []
        → AreAsked open'.maps.graph new.asked → IsNeedOf open'.maps.graph new.need → Leaves query mol ((open'.code.items ++ hit) ++ 0 ∷ []) codes (Some new)
    left_here hit new code graph mol_is at asked need = record {
      query_is = of;
      by = record {
        placed = o.placed ∙ ap (λ (zs : List ℕ). zs ++ 0 ∷ []) (sym code);
        of = record {
          is = subst (λ (zs : List ℕ). IsExpansion query zs new.maps.graph) (sym code) (subst (λ (g : GraphView). IsExpansion query open'.code.items g) (sym graph) o.of.is);
          asked = subst (λ (g : GraphView). AreAsked g new.asked) (sym graph) asked;
          need = subst (λ (g : GraphView). IsNeedOf g new.need) (sym graph) need;
        };
        mol_is = mol_is ∙ o.mol_is;
        at = subst (λ (zs : List ℕ). AtBacks (IsValid query) (HitsBehind query mol) ((open'.code.items ++ hit) ++ 0 ∷ []) zs new.maps.place) (sym code)
            (subst (λ (zs : List ℕ). AtBacks (IsValid query) (HitsBehind query mol) ((open'.code.items ++ hit) ++ 0 ∷ []) open'.code.items zs) (sym at)
            (takes (IsValid query) (HitsBehind query mol) apart place open'.code.items open'.maps.place o.at hit));
      };
    }

    pub taken_here : (hit numbers : List ℕ) (new : Open) → IsLeast open'.maps.place (IsHit open'.maps.graph open'.maps.mol) hit → numbers ≡ open'.code.items ++ hit
        → new.code.items ≡ open'.code.items → new.maps.graph ≡ open'.maps.graph → new.maps.mol ≡ open'.maps.mol → new.maps.place ≡ hit ++ 0 ∷ []
        → AreAsked open'.maps.graph new.asked → IsNeedOf open'.maps.graph new.need → TakesHere query mol place codes (Some open') (Some new) numbers
    taken_here hit numbers new least whole code graph mol_is at asked need = record {
      least = subst (λ (zs : List ℕ). IsLeast place (IsOccurrence query mol) zs) (sym whole) (least_here hit least);
      left = subst (λ (zs : List ℕ). Leaves query mol (zs ++ 0 ∷ []) codes (Some new)) (sym whole) (left_here hit new code graph mol_is at asked need);
      code = open'.code.items;
      hit = hit;
      placed = o.placed;
      whole = whole;
      was_open = refl;
      now_open = refl;
      at = ap (λ (zs : List ℕ). zs ++ new.maps.place) code ∙ ap (λ (zs : List ℕ). open'.code.items ++ zs) at ∙ sym (append_assoc open'.code.items hit (0 ∷ []))
          ∙ ap (λ (zs : List ℕ). zs ++ 0 ∷ []) (sym whole);
    }

  -- ---- the next code

  pub none_left : (place : List ℕ) (old new : CodesLeft) (n : ℕ) → AtFronts (IsValid query) (HitsBehind query mol) place old.place
      → IsLeastFrom old.place (IsValid query) None → new ≡ old → IsNoneOpened query mol place old new n n
  none_left place old new n at none same = record {
    none = no_pair place (ends (IsValid query) (HitsBehind query mol) place old.place at none);
    begun = subst (λ (codes : CodesLeft). Begun (IsCodeFrom query mol place) old.place codes.place n n) (sym same) (begun_none (IsCodeFrom query mol place) old.place n n refl);
  }

  opened_next : (place from back : List ℕ) (codes : CodesLeft) (new : Open) → AtFronts (IsValid query) (HitsBehind query mol) place from
      → IsLeast from (IsValid query) new.code.items → IsBehind new.code.items place back
      → codes.query ≡ query → codes.place ≡ new.code.items ++ 0 ∷ [] → IsOpenOf query new
      → new.maps.mol ≡ mol → new.maps.place ≡ back → Leaves query mol place codes (Some new)
  opened_next place from back codes new at least behind of placed kept mol_is at_back = record {
    query_is = of;
    by = record {
      placed = placed;
      of = kept;
      mol_is = mol_is;
      at = subst (λ (zs : List ℕ). AtBacks (IsValid query) (HitsBehind query mol) place new.code.items zs) (sym at_back)
          (opens (IsValid query) (HitsBehind query mol) place from at new.code.items back least behind);
    };
  }

  -- a code whose graph has no hit is passed
  passed_next : (place from code : List ℕ) (graph : GraphView) (codes : CodesLeft) → AtFronts (IsValid query) (HitsBehind query mol) place from → IsLeast from (IsValid query) code
      → codes.query ≡ query → codes.place ≡ code ++ 0 ∷ [] → IsExpansion query code graph → ((hit : List ℕ) → IsHit graph mol hit → ⊥) → Leaves query mol place codes None
  passed_next place from code graph codes at least of placed expanded none = record {
    query_is = of;
    by = subst (λ (zs : List ℕ). AtFronts (IsValid query) (HitsBehind query mol) place zs) (sym placed)
        (goes_up (IsValid query) (HitsBehind query mol) place from (code ++ 0 ∷ []) at
        (λ below. least.from (below_through code (code ++ 0 ∷ []) from (after code) below))
        (λ other back is its not under.
        (let same = between_none code other (least.least other is not) under in
        none back (behind_hits code graph expanded back (subst (λ (zs : List ℕ). HitsBehind query mol zs back) (sym same) its)))));
  }
    where
      after : (xs : List ℕ) → IsBelow xs (xs ++ 0 ∷ [])
      after [] = tt
      after (x ∷ xs) = inr (refl, after xs)

-- ---- what is passed

module _ (query : QueryView) (mol : Molecule) (place : List ℕ) (old next new : CodesLeft) (open' : Option Open) (before after : ℕ) (left : Leaves query mol place old None)
    (code : List ℕ) (taken : IsNext old next code) where
  -- the code is the least of the query's
  least_code : IsLeast old.place (IsValid query) code
  least_code = subst (λ (q : QueryView). IsLeast old.place (IsValid q) code) left.query_is taken.least

  pub hitless_passed : IsHitless query mol next new open' before after → IsOpenedAt query mol place old new open' before after
  hitless_passed h =
      let code_is : h.expansion.code.items ≡ code = before_zero h.expansion.code.items code (sym h.placed ∙ taken.place) in
      let placed : new.place ≡ code ++ 0 ∷ [] = ap (λ (c : CodesLeft). c.place) h.same ∙ taken.place in
      let expanded = subst (λ (zs : List ℕ). IsExpansion query zs h.expansion.graph) code_is h.kept.is in
      record {
        code = code;
        least = least_code;
        passed = subst (λ (zs : List ℕ). IsBelow code zs) (sym placed) (below_after code);
        left = subst (λ (m : Option Open). Leaves query mol place new m) (sym h.shut)
            (passed_next query mol place old.place code h.expansion.graph new left.by least_code
            (ap (λ (c : CodesLeft). c.query) h.same ∙ taken.query ∙ left.query_is) placed expanded h.none);
        begun = begun_over (IsCodeFrom query mol place) old.place new.place before after (not_after old.place code new.place least_code.from placed) h.same_count;
        for_it = λ is. absurd (let no : is_open None ≡ true = subst (λ (m : Option Open). is_open m ≡ true) h.shut is in cc);
      }

  pub begun_opened : IsBegunAt query mol place next new open' before after → IsOpenedAt query mol place old new open' before after
  unfolding begun_one
  begun_opened b =
      let code_is : b.expansion.code.items ≡ code = before_zero b.expansion.code.items code (sym b.placed ∙ taken.place) in
      let placed : new.place ≡ code ++ 0 ∷ [] = ap (λ (c : CodesLeft). c.place) b.same ∙ taken.place in
      let expanded = subst (λ (zs : List ℕ). IsExpansion query zs b.expansion.graph) code_is b.kept.is in
      record {
        code = code;
        least = least_code;
        passed = subst (λ (zs : List ℕ). IsBelow code zs) (sym placed) (below_after code);
        left = subst (λ (m : Option Open). Leaves query mol place new m) (sym b.opened)
            (opened_next query mol place old.place b.back new
            (record { maps = b.maps; code = b.expansion.code; asked = b.expansion.asked; need = b.expansion.need }) left.by
            (subst (IsLeast old.place (IsValid query)) (sym code_is) least_code)
            b.behind
            (ap (λ (c : CodesLeft). c.query) b.same ∙ taken.query ∙ left.query_is) (placed ∙ ap (λ (zs : List ℕ). zs ++ 0 ∷ []) (sym code_is))
            (record {
              is = subst (λ (g : GraphView). IsExpansion query b.expansion.code.items g) (sym b.made.graph_is) b.kept.is;
              asked = subst (λ (g : GraphView). AreAsked g b.expansion.asked) (sym b.made.graph_is) b.kept.asked;
              need = subst (λ (g : GraphView). IsNeedOf g b.expansion.need) (sym b.made.graph_is) b.kept.need;
            })
            b.made.mol_is b.made.place_is);
        begun = begun_one (IsCodeFrom query mol place) old.place code new.place before after
            (record {
              covered = record {
                screen = b.screen;
                shows = b.shows;
                covered =
                    record { graph = b.expansion.graph; need = b.expansion.need; valid = least_code.has; expanded = expanded; needs = b.kept.need; covers = b.covers };
              };
              from = left.by.fronts code least_code.has least_code.from;
            })
            least_code.from placed b.one_more;
        for_it = λ is. record { placed = placed; held = inl refl };
      }
