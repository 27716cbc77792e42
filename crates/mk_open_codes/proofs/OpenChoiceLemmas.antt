-- Open choices: read one way, and shared by the choices that agree with them.
--     law                 numbers spell at most one open choice
--     pieces_grow         what slots become by an open choice stands in what they become by a choice
--                         that agrees
--     root_shared         so what the root becomes is shared
use Rattle.std.proofs.Common.{◌≡◌, ◌∙◌, ℕ, ◌<◌, Bool, true, false, cond, ◌&&◌, List, [], ◌∷◌, ◌++◌, length, refl, sym, ap, subst}
use Rattle.mk_model.specs.declared.template.Slot.{Slot}
use Rattle.mk_model.specs.declared.template.Slot.TheVariants.{Link, Site}
use Rattle.mk_model.specs.Codes.{Choice, IsChoice}
use Rattle.mk_model.specs.Codes.Choice.{done, repeated, unfilled, filled}
use Rattle.mk_model.specs.Expansions.{expansion, joined, left_open, pieces_of, template_of}
use Rattle.mk_model.specs.Labels.{draws_rest_hydrogens, member}
use Rattle.mk_model.specs.Pieces.{Piece, numbers_to}
use Rattle.mk_model.specs.Pieces.Piece.{Copies, Member, Hydrogens, Nothing}
use Rattle.mk_model.specs.Queries.{QueryView, slots_of}
use Rattle.mk_model.specs.QueryFits.{QueryFits}
use Rattle.mk_model.specs.Templates.{neighbour_count}
use Rattle.mk_text.proofs.ForCallers.{both as both_parts}
use Rattle.mk_pieces.proofs.ChoiceFits.{AreKnownSlots, chosen_there, kept_template, known_slots, slots_of_template, template_fit}
use Rattle.mk_pieces.proofs.EndLemmas.{sites_apart}
use Rattle.mk_expand.specs.OpenCodes.{OpenChoice, open_spelling}
use Rattle.mk_open_codes.specs.Completions.{Agrees, OpenCodesAreReadOneWay}
use Rattle.mk_expand.specs.OpenCodes.OpenChoice.{no_more, undecided, repeats, vacates, fills}
use Rattle.mk_expand.specs.OpenGraphs.{is_one_ended, open_expansion, open_pieces, opened, opens_one_ended}
use Rattle.mk_expand.proofs.OneChoiceLemmas.{one_open_choice}
use Rattle.mk_open_codes.proofs.HungLemmas.{AllHung, HungAt, HungBy, Inner, IsHung, level_home, level_hung, level_root, more_hung, none_hung, own_inner}
use Rattle.mk_open_codes.proofs.LevelLemmas.{level_shared}
use Rattle.mk_open_codes.proofs.PlaceLemmas.{IsLevel, level_places}
use Rattle.mk_open_codes.proofs.SharedLemmas.{AllGrow, GrowsBy, IsShared}

-- ---- read one way

pub law : OpenCodesAreReadOneWay
law query t open_code one other =
    let same : open_spelling one.choice ++ [] ≡ open_spelling other.choice ++ [] = ap (λ (xs : List ℕ). xs ++ []) (one.spelt ∙ sym other.spelt) in
    (one_open_choice query (slots_of query t) one.choice other.choice [] [] one.made other.made same).choices

-- ---- shared

-- what an unfilled site becomes is the same in a part and in the whole
vacant_grows : (query : QueryView) (slot : Slot) → (places : List ℕ) × GrowsBy (left_open query slot) (left_open query slot) places
    × HungBy (left_open query slot) (left_open query slot) places own_inner
vacant_grows query slot = by (draws_rest_hydrogens query slot)
  where
    by : (b : Bool) → (places : List ℕ) × GrowsBy (cond b (Hydrogens (neighbour_count slot)) Nothing) (cond b (Hydrogens (neighbour_count slot)) Nothing) places
        × HungBy (cond b (Hydrogens (neighbour_count slot)) Nothing) (cond b (Hydrogens (neighbour_count slot)) Nothing) places own_inner
    by true = (numbers_to (neighbour_count slot), (refl, refl), refl)
    by false = ([], refl, refl)

-- where it is the same there is nothing that is open
vacant_hung : (query : QueryView) (slot : Slot) (places : List ℕ) → HungBy (left_open query slot) (left_open query slot) places own_inner
    → HungAt slot (left_open query slot) (left_open query slot) places own_inner
vacant_hung query slot places by = record { one = λ none some. absurd (let never : true ≡ false = sym none ∙ some in cc); by = by }

-- a slot with one end has one neighbour
one_neighbour : (slot : Slot) → is_one_ended slot ≡ true → neighbour_count slot ≡ 1
one_neighbour (Link atom most from to) is = absurd cc
one_neighbour (Site atom groups first second) is = rw is refl

-- What slots become by an open choice stands in what they become by a choice; and where each slot that
-- is left open has one neighbour, all else hangs on it by bridges.
abbrev pub Grown : QueryView → List Slot → OpenChoice → Choice → Type 0
Grown query slots open_choice choice =
    (others : List (List ℕ)) × AllGrow (open_pieces query slots open_choice) (pieces_of query slots choice) others
    × (opens_one_ended query slots open_choice ≡ true → (inners : List Inner) × AllHung slots (open_pieces query slots open_choice) (pieces_of query slots choice) others inners)

-- a slot that is left open
open_grows : (query : QueryView) (slot : Slot) (q : Piece) (slots : List Slot) (ps qs : List Piece) (one_ended : Bool)
    → (others : List (List ℕ)) × AllGrow ps qs others × (one_ended ≡ true → (inners : List Inner) × AllHung slots ps qs others inners)
    → (others : List (List ℕ)) × AllGrow (Nothing ∷ ps) (q ∷ qs) others
    × ((is_one_ended slot && one_ended) ≡ true → (inners : List Inner) × AllHung (slot ∷ slots) (Nothing ∷ ps) (q ∷ qs) others inners)
open_grows query slot q slots ps qs one_ended rest = (
  [] ∷ rest.0,
  (refl, rest.1),
  λ so.
      (let parts = both_parts (is_one_ended slot) one_ended so in
      let behind = rest.2 parts.1 in
      (own_inner ∷ behind.0, more_hung slot Nothing q [] own_inner slots ps qs rest.0 behind.0 (record { one = λ none some. one_neighbour slot parts.0; by = refl }) behind.1)),
)

-- a template whose slots have become pieces by an open choice and by one that agrees
level_of : (query : QueryView) (fits : QueryFits query) (t : ℕ) (there : t < length query.templates) (open_choice : OpenChoice) (choice : Choice) (made : IsChoice query (slots_of query t) choice)
    (others : List (List ℕ)) → AllGrow (open_pieces query (slots_of query t) open_choice) (pieces_of query (slots_of query t) choice) others
    → IsLevel (template_of query t) (open_pieces query (slots_of query t) open_choice) (pieces_of query (slots_of query t) choice) others
level_of query fits t there open_choice choice made others grow = record {
  kept = kept_template query fits t there;
  apart = sites_apart query fits t there;
  fit = template_fit query fits t there choice made;
  grow = grow;
}

-- what slots become by an open choice stands in what they become by a choice that agrees
pub pieces_grow : (query : QueryView) (fits : QueryFits query) (slots : List Slot) (open_choice : OpenChoice) (choice : Choice) → AreKnownSlots query slots → IsChoice query slots choice
    → Agrees open_choice choice → Grown query slots open_choice choice
unfolding open_pieces pieces_of
pieces_grow query fits [] no_more done known is agrees = ([], tt, λ so. ([], none_hung))
pieces_grow query fits [] (undecided more) done known is agrees = absurd agrees
pieces_grow query fits [] (repeats n more) done known is agrees = absurd agrees
pieces_grow query fits [] (vacates n more) done known is agrees = absurd agrees
pieces_grow query fits [] (fills k inside more) done known is agrees = absurd agrees
pieces_grow query fits [] open_choice (repeated n more) known is agrees = absurd is
pieces_grow query fits [] open_choice (unfilled n more) known is agrees = absurd is
pieces_grow query fits [] open_choice (filled k inside more) known is agrees = absurd is
pieces_grow query fits (Link atom most from to ∷ slots) open_choice done known is agrees = absurd is
pieces_grow query fits (Link atom most from to ∷ slots) open_choice (unfilled n more) known is agrees = absurd is
pieces_grow query fits (Link atom most from to ∷ slots) open_choice (filled k inside more) known is agrees = absurd is
pieces_grow query fits (Link atom most from to ∷ slots) no_more (repeated n more) known is agrees = absurd agrees
pieces_grow query fits (Link atom most from to ∷ slots) (undecided others) (repeated n more) known is agrees =
    open_grows query (Link atom most from to) (Copies n) slots (open_pieces query slots others) (pieces_of query slots more) (opens_one_ended query slots others)
    (pieces_grow query fits slots others more known.1 is.2 agrees)
pieces_grow query fits (Link atom most from to ∷ slots) (repeats m others) (repeated n more) known is agrees =
    (let rest = pieces_grow query fits slots others more known.1 is.2 agrees.1 in (
      numbers_to m ∷ rest.0,
      ((agrees.0, refl), rest.1),
      λ so.
          (let behind = rest.2 so in (
            own_inner ∷ behind.0,
            more_hung (Link atom most from to) (Copies m) (Copies n) (numbers_to m) own_inner slots (open_pieces query slots others) (pieces_of query slots more) rest.0 behind.0
                (record { one = λ none some. absurd cc; by = refl }) behind.1,
          )),
    ))
pieces_grow query fits (Link atom most from to ∷ slots) (vacates m others) (repeated n more) known is agrees = absurd agrees
pieces_grow query fits (Link atom most from to ∷ slots) (fills m within others) (repeated n more) known is agrees = absurd agrees
pieces_grow query fits (Site atom groups first second ∷ slots) open_choice done known is agrees = absurd is
pieces_grow query fits (Site atom groups first second ∷ slots) open_choice (repeated n more) known is agrees = absurd is
pieces_grow query fits (Site atom groups first second ∷ slots) no_more (unfilled n more) known is agrees = absurd agrees
pieces_grow query fits (Site atom groups first second ∷ slots) (undecided others) (unfilled n more) known is agrees =
    open_grows query (Site atom groups first second) (left_open query (Site atom groups first second)) slots (open_pieces query slots others) (pieces_of query slots more)
    (opens_one_ended query slots others) (pieces_grow query fits slots others more known.1 is.1 agrees)
pieces_grow query fits (Site atom groups first second ∷ slots) (repeats m others) (unfilled n more) known is agrees = absurd agrees
pieces_grow query fits (Site atom groups first second ∷ slots) (vacates m others) (unfilled n more) known is agrees =
    (let rest = pieces_grow query fits slots others more known.1 is.1 agrees.1 in
    let own = vacant_grows query (Site atom groups first second) in (
      own.0 ∷ rest.0,
      (own.1, rest.1),
      λ so.
          (let behind = rest.2 so in (
            own_inner ∷ behind.0,
            more_hung (Site atom groups first second) (left_open query (Site atom groups first second)) (left_open query (Site atom groups first second)) own.0 own_inner slots
                (open_pieces query slots others) (pieces_of query slots more) rest.0 behind.0 (vacant_hung query (Site atom groups first second) own.0 own.2) behind.1,
          )),
    ))
pieces_grow query fits (Site atom groups first second ∷ slots) (fills m within others) (unfilled n more) known is agrees = absurd agrees
pieces_grow query fits (Site atom groups first second ∷ slots) no_more (filled k inside more) known is agrees = absurd agrees
pieces_grow query fits (Site atom groups first second ∷ slots) (undecided others) (filled k inside more) known is agrees =
    (let u = member query (Site atom groups first second) k in
    open_grows query (Site atom groups first second) (Member (joined (template_of query u) (pieces_of query (slots_of query u) inside))) slots (open_pieces query slots others)
    (pieces_of query slots more) (opens_one_ended query slots others) (pieces_grow query fits slots others more known.1 is.3 agrees))
pieces_grow query fits (Site atom groups first second ∷ slots) (repeats m others) (filled k inside more) known is agrees = absurd agrees
pieces_grow query fits (Site atom groups first second ∷ slots) (vacates m others) (filled k inside more) known is agrees = absurd agrees
pieces_grow query fits (Site atom groups first second ∷ slots) (fills m within others) (filled k inside more) known is agrees =
    let u = member query (Site atom groups first second) k in
    let there = chosen_there query (Site atom groups first second) k is.0 is.1 in
    let same = slots_of_template query u there.0 in
    let inner = pieces_grow query fits (slots_of query u) within inside (rw same (known_slots query fits u there.0)) is.2 agrees.1 in
    let level = level_of query fits u there.0 within inside is.2 inner.0 inner.1 in
    let shared = level_shared (template_of query u) (open_pieces query (slots_of query u) within) (pieces_of query (slots_of query u) inside) inner.0 level in
    let places = level_places (template_of query u) (pieces_of query (slots_of query u) inside) inner.0 in
    let rest = pieces_grow query fits slots others more known.1 is.3 agrees.2 in (
      places ∷ rest.0,
      (subst (grown_by u inside places) (sym agrees.0) shared, rest.1),
      λ so.
          (let v = member query (Site atom groups first second) m in
          let parts = both_parts (opens_one_ended query (slots_of query v) within) (opens_one_ended query slots others) so in
          let number : opens_one_ended query (slots_of query u) within ≡ true =
          subst (λ (n : ℕ). opens_one_ended query (slots_of query (member query (Site atom groups first second) n)) within ≡ true) agrees.0 parts.0 in
          let hung' = inner.2 number in
          let hung : (inners : List Inner) × AllHung (template_of query u).slots (open_pieces query (slots_of query u) within) (pieces_of query (slots_of query u) inside) inner.0 inners =
          (hung'.0, subst (λ (xs : List Slot). AllHung xs (open_pieces query (slots_of query u) within) (pieces_of query (slots_of query u) inside) inner.0 hung'.0) same hung'.1) in
          let behind = rest.2 parts.1 in
          let home = level_home (template_of query u) (open_pieces query (slots_of query u) within) (pieces_of query (slots_of query u) inside) inner.0 level hung.0 hung.1 in
          let root = level_root (template_of query u) (open_pieces query (slots_of query u) within) (pieces_of query (slots_of query u) inside) inner.0 level hung.0 hung.1 in
          let there = level_hung (template_of query u) (open_pieces query (slots_of query u) within) (pieces_of query (slots_of query u) inside) inner.0 level hung.0 hung.1 in
          let own : Inner = record { home = home; root = root } in (
            own ∷ behind.0,
            more_hung (Site atom groups first second) (Member (opened (template_of query v) (open_pieces query (slots_of query v) within)))
                (Member (joined (template_of query u) (pieces_of query (slots_of query u) inside))) places own slots (open_pieces query slots others) (pieces_of query slots more) rest.0 behind.0
                (record { one = λ none some. absurd cc; by = subst (hung_by u inside places home root) (sym agrees.0) there }) behind.1,
          )),
    )
  where
    -- all else of what template u becomes hangs on the part that the n-th member becomes
    hung_by : (u : ℕ) → Choice → List ℕ → (ℕ → ℕ) → (ℕ → ℕ) → ℕ → Type 0
    hung_by u inside places home root n =
        let v = member query (Site atom groups first second) n in
        IsHung (opened (template_of query v) (open_pieces query (slots_of query v) within)) (joined (template_of query u) (pieces_of query (slots_of query u) inside)) places home root

    -- the part that the n-th member becomes is shared with what template u becomes
    grown_by : (u : ℕ) → Choice → List ℕ → ℕ → Type 0
    grown_by u inside places n =
        let v = member query (Site atom groups first second) n in
        IsShared (opened (template_of query v) (open_pieces query (slots_of query v) within)) (joined (template_of query u) (pieces_of query (slots_of query u) inside)) places

-- What a template becomes by an open choice is shared with what it becomes by one that agrees; and where
-- each slot that is left open has one neighbour, all else hangs on it by bridges.
pub template_shared : (query : QueryView) (fits : QueryFits query) (t : ℕ) → t < length query.templates → (open_choice : OpenChoice) (choice : Choice) → IsChoice query (slots_of query t) choice
    → Agrees open_choice choice → (places : List ℕ) × IsShared (open_expansion query t open_choice) (expansion query t choice) places
    × (opens_one_ended query (slots_of query t) open_choice ≡ true → (home : ℕ → ℕ) × (root : ℕ → ℕ) × IsHung (open_expansion query t open_choice) (expansion query t choice) places home root)
unfolding open_expansion expansion
template_shared query fits t there open_choice choice made agrees =
    let same = slots_of_template query t there in
    let grown = pieces_grow query fits (slots_of query t) open_choice choice (rw same (known_slots query fits t there)) made agrees in
    let level = level_of query fits t there open_choice choice made grown.0 grown.1 in (
      level_places (template_of query t) (pieces_of query (slots_of query t) choice) grown.0,
      level_shared (template_of query t) (open_pieces query (slots_of query t) open_choice) (pieces_of query (slots_of query t) choice) grown.0 level,
      λ so.
          (let hung = grown.2 so in
          let slots : AllHung (template_of query t).slots (open_pieces query (slots_of query t) open_choice) (pieces_of query (slots_of query t) choice) grown.0 hung.0 =
          subst (λ (xs : List Slot). AllHung xs (open_pieces query (slots_of query t) open_choice) (pieces_of query (slots_of query t) choice) grown.0 hung.0) same hung.1 in (
            level_home (template_of query t) (open_pieces query (slots_of query t) open_choice) (pieces_of query (slots_of query t) choice) grown.0 level hung.0 slots,
            level_root (template_of query t) (open_pieces query (slots_of query t) open_choice) (pieces_of query (slots_of query t) choice) grown.0 level hung.0 slots,
            level_hung (template_of query t) (open_pieces query (slots_of query t) open_choice) (pieces_of query (slots_of query t) choice) grown.0 level hung.0 slots,
          )),
    )
