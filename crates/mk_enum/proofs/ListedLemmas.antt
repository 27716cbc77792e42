-- Structures that are listed, one after another.
--     none_yet, one_more          from a place on
--     all_listed, full_list       all that are left, and as many as were asked for
--     behind_none, behind_last    the place behind some codes
use Rattle.std.proofs.Common.{◌≡◌, ◌<◌, ◌+◌, ◌-◌, ℕ, zero, suc, None, Some, true, false, List, [], ◌∷◌, ◌++◌, length, refl, sym, ap, ◌∙◌, subst, append_assoc, arith}
use Rattle.std.specs.Prelude.{slice_get}
use Rattle.std.proofs.lemmas.Bool.{le-ltb, lt-ltb}
use Rattle.std.proofs.lemmas.List.{append-nil}
use Rattle.mk_text.specs.Rising.{AreFirst, IsBelow, IsFrom, IsLeast, IsLeastFrom, place_behind}
use Rattle.mk_text.proofs.ForCallers.{below_after, below_through, below_what_isnt, Listed, first_listed, first_when_all, listed_more, listed_none}
use Rattle.mk_model.specs.Queries.{QueryView}
use Rattle.mk_choice.specs.Codes.{CodesLeft, IsMadeFrom}
use Rattle.mk_enum.specs.declared.listed.Structures.{Structures}
use Rattle.mk_enum.specs.Enumerations.{AreTextsOf, IsEnumeration, IsStructure, IsTextOf}
use Rattle.mk_enum.specs.Steps.{IsPutNext}

-- one text more
texts_more : (query : QueryView) (list : List (List ℕ)) (text code more : List ℕ) → AreTextsOf query list text → IsTextOf query code more → AreTextsOf query (list ++ code ∷ []) (text ++ more)
texts_more query [] text code more none is = (more, [], ap (λ (t : List ℕ). t ++ more) none ∙ sym (append-nil more), is, refl)
texts_more query (one ∷ list) text code more (front, back, whole, of, others) is =
    (front, back ++ more, ap (λ (t : List ℕ). t ++ more) whole ∙ append_assoc front back more, of, texts_more query list back code more others is)

-- all structures from a place on that are below another one, and their texts
pub record HasListed (query : QueryView) (place to : List ℕ) (list : List (List ℕ)) (text : List ℕ) : Type 0 where
  pub listed : Listed (IsFrom (IsStructure query) place) to list
  pub up : (xs : List ℕ) → IsBelow xs place → IsBelow xs to
  pub texts : AreTextsOf query list text

module _ (query : QueryView) (place : List ℕ) where
  pub none_yet : (left : CodesLeft) → IsMadeFrom query place left → HasListed query place left.place [] []
  none_yet left made =
      subst (λ (to : List ℕ). HasListed query place to [] []) (sym made.place_is) (record {
        listed = listed_none (IsFrom (IsStructure query) place) place (λ xs is below. is.1 below);
        up = λ xs below. below;
        texts = refl;
      })

  module _ (left : CodesLeft) (list : List (List ℕ)) (text : List ℕ) (so_far : HasListed query place left.place list text) where
    pub one_more : (next : CodesLeft) (new code : List ℕ) → IsPutNext query left next text new code → HasListed query place next.place (list ++ code ∷ []) new
    one_more next new code is =
        let least : IsLeast left.place (IsFrom (IsStructure query) place) code = record {
          has = (is.least.has, λ below. is.least.from (so_far.up code below));
          from = is.least.from;
          least = λ other its. is.least.least other its.0;
        } in
        let over : (xs : List ℕ) → IsBelow xs place → IsBelow xs (code ++ (0 ∷ [])) =
        λ xs below. below_through xs code (code ++ (0 ∷ [])) (below_what_isnt xs code left.place (so_far.up xs below) is.least.from) (below_after code) in
        subst (λ (to : List ℕ). HasListed query place to (list ++ code ∷ []) new) (sym is.place) (record {
          listed = listed_more (IsFrom (IsStructure query) place) left.place list code so_far.listed least;
          up = over;
          texts = subst (AreTextsOf query (list ++ code ∷ [])) (sym is.put) (texts_more query list text code is.text so_far.texts is.is);
        })

    -- where none is left, these are all
    pub all_listed : (limit : ℕ) (found : Structures) → IsLeastFrom left.place (IsStructure query) None → length list < limit → found.codes ≡ list → found.text ≡ text
        → found.place ≡ place_behind place list → found.ended ≡ true → IsEnumeration query place limit found
    all_listed limit found none few codes texts behind ended = record {
      first = subst (AreFirst limit (IsFrom (IsStructure query) place)) (sym codes)
          (first_when_all (IsFrom (IsStructure query) place) left.place limit list so_far.listed (omega (arith, few)) (λ xs is. none xs is.0));
      texts = subst (AreTextsOf query found.codes) (sym texts) (subst (λ (l : List (List ℕ)). AreTextsOf query l text) (sym codes) so_far.texts);
      behind = behind ∙ ap (place_behind place) (sym codes);
      ended = ended ∙ sym (lt-ltb (length found.codes) limit (omega (arith, few, ap length codes)));
    }

    -- and else these are as many as were asked for
    pub full_list : (limit : ℕ) (found : Structures) → length list ≡ limit → found.codes ≡ list → found.text ≡ text
        → found.place ≡ place_behind place list → found.ended ≡ false → IsEnumeration query place limit found
    full_list limit found full codes texts behind ended = record {
      first = subst (AreFirst limit (IsFrom (IsStructure query) place)) (sym codes)
          (subst (λ (n : ℕ). AreFirst n (IsFrom (IsStructure query) place) list) full (first_listed (IsFrom (IsStructure query) place) left.place list so_far.listed));
      texts = subst (AreTextsOf query found.codes) (sym texts) (subst (λ (l : List (List ℕ)). AreTextsOf query l text) (sym codes) so_far.texts);
      behind = behind ∙ ap (place_behind place) (sym codes);
      ended = ended ∙ sym (le-ltb (length found.codes) limit (omega (arith, full, ap length codes)));
    }

-- ---- the place behind some codes

-- behind none it is the place before
pub behind_none : (place : List ℕ) (list : List (List ℕ)) → None ≡ slice_get list (length list - 1) → place ≡ place_behind place list
behind_none place [] none = refl
behind_none place (code ∷ list) none = absurd (some (code ∷ list) (length (code ∷ list) - 1) (omega arith) none)
  where
    some : (all : List (List ℕ)) (k : ℕ) → k < length all → None ≡ slice_get all k → ⊥
    some [] k below e = omega (arith, below)
    some (x ∷ all) zero below e = absurd cc
    some (x ∷ all) (suc k) below e = some all k (omega (arith, below)) e

last_at : (place : List ℕ) (list : List (List ℕ)) (k : ℕ) (code : List ℕ) → k + 1 ≡ length list → Some code ≡ slice_get list k → code ++ (0 ∷ []) ≡ place_behind place list
last_at place [] k code end is = absurd cc
last_at place (x ∷ []) zero code end is = (let same : code ≡ x = cc in ap (λ (zs : List ℕ). zs ++ (0 ∷ [])) same)
last_at place (x ∷ []) (suc k) code end is = absurd (omega (arith, end))
last_at place (x ∷ y ∷ list) zero code end is = absurd (omega (arith, end))
last_at place (x ∷ y ∷ list) (suc k) code end is = last_at (x ++ (0 ∷ [])) (y ∷ list) k code (omega (arith, end)) is

-- behind some it is that behind the last
pub behind_last : (place : List ℕ) (list : List (List ℕ)) (code : List ℕ) → Some code ≡ slice_get list (length list - 1) → code ++ (0 ∷ []) ≡ place_behind place list
behind_last place [] code is = absurd cc
behind_last place (x ∷ list) code is = last_at place (x ∷ list) (length (x ∷ list) - 1) code (omega arith) is
