-- The lines of keys.
--     no_code, line_of       where a key has parts its numbers begin with a code, and by it the key has a line
--     lines_none, lines_more the lines of the first keys
--     have_parts             the keys that are listed have parts
--     one_hits_text          keys have one text
--     goes_on                a list that goes on doesn't end
use Rattle.std.proofs.Common.{◌≡◌, ◌≢◌, ◌⊎◌, ℕ, ◌+◌, ◌<◌, inl, inr, List, [], ◌∷◌, ◌++◌, Some, None, length, get_or, take, drop, All, refl, sym, ap, subst, ◌∙◌, append_assoc, append-nil, add-one}
use Rattle.std.specs.Prelude.{Result, Ok, Err, OnOk}
use Rattle.std.proofs.lemmas.List.{append_cancel_left, take-append-drop}
use Rattle.std.proofs.lemmas.List.Elements.{All-cons, All-nil}
use Rattle.std.proofs.Math.Seq.{take-suc}
use Rattle.mk_text.specs.Rising.{AreFirst, Holds}
use Rattle.mk_choice.specs.Within.{IsCodeWithin}
use Rattle.mk_model.specs.Keys.{IsKey}
use Rattle.mk_model.specs.Molecules.{Molecule}
use Rattle.mk_model.specs.Queries.{QueryView}
use Rattle.mk_model.proofs.ForCallers.{code_of_valid, one_code}
use Rattle.mk_effects.specs.declared.hit_lines.Stop.{Stop}
use Rattle.mk_effects.specs.declared.hit_lines.Stop.TheVariants as stop
use Rattle.mk_effects.specs.Hits.{AreHitLines, HasParts, HaveParts, IsHitLine, IsHitsText, PutsLine, hit_line, stop_line}

-- ---- one key

-- numbers behind that of a record begin with a code
pub no_code : (query : QueryView) (number : ℕ) (numbers : List ℕ) → HasParts query (number ∷ numbers) → IsCodeWithin query numbers None → ⊥
no_code query number numbers parts none =
    let whole = parts.whole in
    let same : numbers ≡ parts.code ++ parts.hit = cc in
    none parts.code parts.hit parts.is_code same

-- by that code the key has a line
line_of : (query : QueryView) (number size : ℕ) (numbers : List ℕ) → IsCodeWithin query numbers (Some size)
    → IsHitLine query (number ∷ numbers) (hit_line number (take size numbers) (drop size numbers))
line_of query number size numbers is = record {
  parts = record {
    number = number;
    code = take size numbers;
    hit = drop size numbers;
    is_code = is.1;
    whole = ap (λ (xs : List ℕ). number ∷ xs) (sym (take-append-drop size numbers));
  };
  spelt = refl;
}

-- which is put behind what is written
pub line_put : {T E : Type 0} (query : QueryView) (number size : ℕ) (numbers code hit old new : List ℕ) (r : Result T E) → IsCodeWithin query numbers (Some size)
    → code ≡ take size numbers → hit ≡ drop size numbers → OnOk r (new ≡ old ++ hit_line number code hit) → OnOk r (PutsLine query (number ∷ numbers) old new)
line_put query number size numbers code hit old new (Ok value) is front back put = record {
  line = hit_line number code hit;
  is = subst (λ (xs : List ℕ). IsHitLine query (number ∷ numbers) (hit_line number xs hit)) (sym front)
      (subst (λ (xs : List ℕ). IsHitLine query (number ∷ numbers) (hit_line number (take size numbers) xs)) (sym back) (line_of query number size numbers is));
  put = put;
}
line_put query number size numbers code hit old new (Err e) is front back put = tt

-- ---- one after another

more_lines : (query : QueryView) (keys : List (List ℕ)) (key lines line : List ℕ) → AreHitLines query keys lines → IsHitLine query key line
    → AreHitLines query (keys ++ key ∷ []) (lines ++ line)
more_lines query [] key lines line are is = (line, [], is, refl, ap (λ (xs : List ℕ). xs ++ line) are ∙ sym (append-nil line))
more_lines query (first ∷ keys) key lines line are is =
    (are.0, are.1 ++ line, are.2, more_lines query keys key are.1 line are.3 is, ap (λ (xs : List ℕ). xs ++ line) are.4 ∙ append_assoc are.0 are.1 line)

-- the lines of the first keys, and of one more
pub lines_more : (query : QueryView) (keys : List (List ℕ)) (i : ℕ) (d lines new : List ℕ) → i < length keys → AreHitLines query (take i keys) lines
    → PutsLine query (get_or keys i d) lines new → AreHitLines query (take (i + 1) keys) new
lines_more query keys i d lines new below are puts =
    let more = more_lines query (take i keys) (get_or keys i d) lines puts.line are puts.is in
    rw (add-one, take-suc keys i d below, puts.put) more

-- ---- the keys that are listed

key_parts : (Held : ℕ → Molecule → Type 0) (query : QueryView) (key : List ℕ) → IsKey Held query key → HasParts query key
key_parts Held query key is = record {
  number = is.number;
  code = is.occurs.code;
  hit = is.occurs.hit;
  is_code = code_of_valid query is.occurs.code is.occurs.valid;
  whole = is.whole ∙ ap (λ (xs : List ℕ). is.number ∷ xs) is.occurs.whole;
}

all_held : (P : List ℕ → Type 0) (lists : List (List ℕ)) → ((xs : List ℕ) → Holds lists xs → P xs) → All P lists
all_held P [] each = All-nil P
all_held P (xs ∷ lists) each = All-cons P xs lists (each xs (inl refl)) (all_held P lists (λ ys is. each ys (inr is)))

pub have_parts : (P : List ℕ → Type 0) (Held : ℕ → Molecule → Type 0) (query : QueryView) (most : ℕ) (keys : List (List ℕ)) → ((key : List ℕ) → P key → IsKey Held query key)
    → AreFirst most P keys → HaveParts query keys
have_parts P Held query most keys are first = all_held (HasParts query) keys (λ key is. key_parts Held query key (are key (first.each key is)))

-- ---- one text

-- a key has one line
one_line : (query : QueryView) (key a b : List ℕ) → IsHitLine query key a → IsHitLine query key b → a ≡ b
one_line query key a b p q =
    let n = p.parts in
    let m = q.parts in
    let whole : n.number ∷ (n.code ++ n.hit) ≡ m.number ∷ (m.code ++ m.hit) = sym n.whole ∙ m.whole in
    let number : n.number ≡ m.number = cc in
    let behind : n.code ++ n.hit ≡ m.code ++ m.hit = cc in
    let code : m.code ≡ n.code = one_code query n.code n.hit m.code m.hit n.is_code m.is_code behind in
    let hit : n.hit ≡ m.hit = append_cancel_left n.code n.hit m.hit (behind ∙ ap (λ (xs : List ℕ). xs ++ m.hit) code) in
    p.spelt ∙ ap (λ (k : ℕ). hit_line k n.code n.hit) number ∙ ap (λ (xs : List ℕ). hit_line m.number xs n.hit) (sym code)
    ∙ ap (λ (xs : List ℕ). hit_line m.number m.code xs) hit ∙ sym q.spelt

one_lines : (query : QueryView) (keys : List (List ℕ)) (a b : List ℕ) → AreHitLines query keys a → AreHitLines query keys b → a ≡ b
one_lines query [] a b p q = p ∙ sym q
one_lines query (key ∷ keys) a b p q =
    p.4 ∙ ap (λ (xs : List ℕ). xs ++ p.1) (one_line query key p.0 q.0 p.2 q.2) ∙ ap (λ (xs : List ℕ). q.0 ++ xs) (one_lines query keys p.1 q.1 p.3 q.3) ∙ sym q.4

-- keys have one text, where they stop at one place
pub one_hits_text : (query : QueryView) (keys : List (List ℕ)) (listed : Stop) (a b : List ℕ) → IsHitsText query keys listed a → IsHitsText query keys listed b → a ≡ b
one_hits_text query keys listed a b p q =
    p.whole ∙ ap (λ (xs : List ℕ). xs ++ stop_line listed) (one_lines query keys p.lines q.lines p.are_lines q.are_lines) ∙ sym q.whole

-- ---- where they stop

-- what goes on doesn't end
pub goes_on : (stops : Stop) → ((c : ℕ) × (stops ≡ stop.More c)) ⊎ ((c : ℕ) × (stops ≡ stop.Paused c)) → stops ≢ stop.Ended
goes_on stops (inl more) ends = let h = sym more.1 ∙ ends in cc
goes_on stops (inr paused) ends = let h = sym paused.1 ∙ ends in cc
