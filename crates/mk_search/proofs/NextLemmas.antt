-- The next occurrence of a query in one molecule.
--     opened_none, opened_more    codes were passed, and nothing stood behind them
--     taken_first, taken_later, taken_none     the next occurrence, or none
--     opened_fewer                fewer codes are left behind what is passed
use Rattle.std.proofs.Common.{◌≡◌, ℕ, ◌<◌, inl, inr, List, [], ◌∷◌, ◌++◌, length, Option, Some, None, refl, sym, ap, subst, ◌∙◌, arith, append-nil, length-append}
use Rattle.mk_text.specs.Rising.{Holds}
use Rattle.mk_text.proofs.ForCallers.{holds_append, not_below_itself}
use Rattle.mk_model.specs.Codes.{IsCode}
use Rattle.mk_model.specs.Molecules.{Molecule}
use Rattle.mk_model.specs.Nodes.{BeginsCode}
use Rattle.mk_model.specs.Queries.{QueryView}
use Rattle.mk_model.specs.QueryFits.{QueryFits}
use Rattle.mk_model.proofs.ForCallers.{code_of_valid}
use Rattle.mk_choice.specs.Codes.{CodesLeft}
use Rattle.mk_choice.proofs.CodesLeftLemmas.{fewer_nodes, nodes_left}
use Rattle.mk_search.specs.declared.occurrences.Open.{Open}
use Rattle.mk_search.specs.Begun.{Begun}
use Rattle.mk_search.specs.Occurrences.{IsBegunFor, IsCodeFrom, IsNoneOpened, IsOpenedAt, Leaves, TakesHere, TakesNext, reached}
use Rattle.mk_search.proofs.BegunLemmas.{begun_append, begun_none}
use Rattle.mk_expansions.proofs.StartsLemmas.{before_zero}

-- ---- the next occurrence

-- codes were passed, and nothing stood behind them
pub record HasOpened (query : QueryView) (mol : Molecule) (place : List ℕ) (start : List ℕ) (codes : CodesLeft) (open' : Option Open) (before now : ℕ) : Type 0 where
  pub left : Leaves query mol place codes open'
  pub shut : open' ≡ None
  pub begun : Begun (IsCodeFrom query mol place) start codes.place before now

one_of : (xs ys : List ℕ) → ◌≡◌ {A = Option (List ℕ)} (Some xs) (Some ys) → xs ≡ ys
one_of xs ys e = cc

module _ (query : QueryView) (mol : Molecule) (place : List ℕ) where
  pub opened_none : (codes : CodesLeft) (open' : Option Open) (before : ℕ) → Leaves query mol place codes open' → open' ≡ None
      → HasOpened query mol place codes.place codes open' before before
  opened_none codes open' before left shut = record { left = left; shut = shut; begun = begun_none (IsCodeFrom query mol place) codes.place before before refl }

  -- what is begun with one code more
  begun_next : (start : List ℕ) (codes new : CodesLeft) (open' more : Option Open) (before now after : ℕ) → HasOpened query mol place start codes open' before now
      → IsOpenedAt query mol place codes new more now after → Begun (IsCodeFrom query mol place) start new.place before after
  begun_next start codes new open' more before now after h o =
      begun_append (IsCodeFrom query mol place) start codes.place codes.place new.place before now after h.begun (not_below_itself codes.place) o.begun

  pub opened_more : (start : List ℕ) (codes new : CodesLeft) (open' more last : Option Open) (before now after : ℕ) → HasOpened query mol place start codes open' before now
      → IsOpenedAt query mol place codes new more now after
      → Leaves query mol place new last → last ≡ None → HasOpened query mol place start new last before after
  opened_more start codes new open' more last before now after h o left shut = record {
    left = left;
    shut = shut;
    begun = begun_next start codes new open' more before now after h o;
  }

  -- the first is one of the code that was open
  pub taken_first : (codes : CodesLeft) (open' new : Option Open) (before : ℕ) (numbers : List ℕ) → TakesHere query mol place codes open' new numbers
      → TakesNext query mol place codes open' codes new before before (Some numbers)
  unfolding begun_none
  taken_first codes open' new before numbers t = record {
    least = t.least;
    begun = begun_none (IsCodeFrom query mol place) codes.place before before refl;
    left = λ xs e. subst (λ (zs : List ℕ). Leaves query mol (zs ++ 0 ∷ []) codes new) (one_of numbers xs e) t.left;
    taken = λ xs e. subst (IsBegunFor codes open' codes []) (one_of numbers xs e)
        (record { code = t.code; hit = t.hit; whole = t.whole; placed = t.placed; begun_for = inr (t.was_open, t.placed) });
    now_open = λ xs e. t.now_open;
    at = λ xs e. subst (λ (zs : List ℕ). reached codes new ≡ zs ++ 0 ∷ []) (one_of numbers xs e) t.at;
  }

  -- it is one of a code that was opened now
  pub taken_later : (start codes new : CodesLeft) (opened open' more last : Option Open) (before now after : ℕ) (numbers : List ℕ)
      → HasOpened query mol place start.place codes open' before now → IsOpenedAt query mol place codes new more now after
      → TakesHere query mol place new more last numbers → TakesNext query mol place start opened new last before after (Some numbers)
  unfolding begun_next begun_append
  taken_later start codes new opened open' more last before now after numbers h o t =
      let begun = begun_next start.place codes new open' more before now after h o in
      let opened' = o.for_it t.was_open in
      let same : o.code ≡ t.code = before_zero o.code t.code (sym opened'.placed ∙ t.placed) in
      record {
        least = t.least;
        begun = begun;
        left = λ xs e. subst (λ (zs : List ℕ). Leaves query mol (zs ++ 0 ∷ []) new last) (one_of numbers xs e) t.left;
        taken = λ xs e. subst (IsBegunFor start opened new begun.begun) (one_of numbers xs e)
            (record {
              code = t.code;
              hit = t.hit;
              whole = t.whole;
              placed = t.placed;
              begun_for = inl
                  (holds_append h.begun.begun o.begun.begun t.code (inr (subst (Holds o.begun.begun) same opened'.held)));
            });
        now_open = λ xs e. t.now_open;
        at = λ xs e. subst (λ (zs : List ℕ). reached new last ≡ zs ++ 0 ∷ []) (one_of numbers xs e) t.at;
      }

  -- there is none
  pub taken_none : (start codes new : CodesLeft) (opened open' last : Option Open) (before now after : ℕ) → HasOpened query mol place start.place codes open' before now
      → IsNoneOpened query mol place codes new now after → TakesNext query mol place start opened new last before after None
  taken_none start codes new opened open' last before now after h o = record {
    least = o.none;
    begun = begun_append (IsCodeFrom query mol place) start.place codes.place codes.place new.place before now after h.begun (not_below_itself codes.place) o.begun;
    left = λ xs e. absurd cc;
    taken = λ xs e. absurd cc;
    now_open = λ xs e. absurd cc;
    at = λ xs e. absurd cc;
  }

  -- fewer codes are left behind each that is passed, and behind more of them too
  pub opened_fewer : QueryFits query → (codes new : CodesLeft) (more : Option Open) (now after : ℕ) → IsOpenedAt query mol place codes new more now after
      → nodes_left query new.place < nodes_left query codes.place
  opened_fewer fits codes new more now after o =
      let begins : BeginsCode query o.code = record { more = []; code = subst (IsCode query 0) (sym (append-nil o.code)) (code_of_valid query o.code o.least.has) } in
      fewer_nodes query codes.place new.place o.code fits begins o.least.from o.passed
