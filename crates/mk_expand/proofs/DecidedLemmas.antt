-- Codes as open codes: where no slot is left open, what is made is the expansion.
--     loosened_same       atoms without loose ends stay as they are
--     opened_is           what a template becomes where its slots have become pieces that fit them
--     law                 each structural code is an open code, and makes the same
--     decided_begins, decided_expanded     so the walk of an open code makes the expansion by a code
use Rattle.std.proofs.Common.{◌≡◌, ◌∙◌, ℕ, zero, suc, ◌+◌, ◌-◌, ◌<◌, ◌≤◌, Bool, true, List, [], ◌∷◌, ◌++◌, length, get_or, replicate, refl, sym, ap, subst, arith}
use Rattle.std.specs.Prelude.{Contains}
use Rattle.std.proofs.lemmas.List.{append-nil, length-replicate, replicate_more}
use Rattle.std.proofs.lemmas.List.Elements.{Contains-get_or}
use Rattle.mk_model.specs.declared.atom_test.AtomTest.{AtomTest}
use Rattle.mk_model.specs.declared.graph.GraphAtom.{GraphAtom}
use Rattle.mk_model.specs.declared.template.Slot.{Slot}
use Rattle.mk_model.specs.declared.template.Slot.TheVariants.{Link, Site}
use Rattle.mk_model.specs.Codes.{Choice, IsChoice, IsCode}
use Rattle.mk_model.specs.Codes.Choice.{done, repeated, unfilled, filled}
use Rattle.mk_model.specs.Expansions.{anything, atoms_of, atoms_of_piece, copies, expansion, free_ends, hydrogen, joined, left_open, pieces_of, template_of}
use Rattle.mk_model.specs.Labels.{member}
use Rattle.mk_model.specs.Pieces.{Fragment, Piece, before, piece, piece_numbered, room, taker, width}
use Rattle.mk_model.specs.Pieces.Piece.{Copies, Member, Hydrogens, Nothing}
use Rattle.mk_model.specs.Queries.{QueryView, slots_of}
use Rattle.mk_model.specs.QueryFits.{HasSitesApart, QueryFits}
use Rattle.mk_model.specs.Sizes.{takes_atom}
use Rattle.mk_model.specs.Templates.{TemplateView}
use Rattle.mk_pieces.specs.Begun.{IsExpanded}
use Rattle.mk_pieces.specs.Kept.{IsTemplate}
use Rattle.mk_pieces.proofs.ChoiceFits.{chosen_there, kept_template, template_fit}
use Rattle.mk_pieces.proofs.EndLemmas.{sites_apart}
use Rattle.mk_pieces.proofs.GraphLemmas.{root_small}
use Rattle.mk_pieces.proofs.JoinedLemmas.{atoms_more, atoms_none}
use Rattle.mk_pieces.proofs.NumberLemmas.{mapped_more}
use Rattle.mk_pieces.proofs.PieceLemmas.{FitsSlot, FitSlots, fit_at}
use Rattle.mk_pieces.proofs.SpanLemmas.{is_of}
use Rattle.mk_pieces.proofs.StandLemmas.{own_only}
use Rattle.mk_pieces.proofs.TakerLemmas.{taker_is_slot}
use Rattle.mk_expand.specs.Laws.{CodesAreOpenCodes}
use Rattle.mk_expand.specs.OpenCodes.{decided, open_spelling}
use Rattle.mk_expand.specs.OpenGraphs.{bare_atoms, bare_atoms_of, loose_ends, loosened, open_expansion, open_pieces, opened}
use Rattle.mk_expand.specs.Opening.{IsOpened, OpenBegins}
use Rattle.mk_expand.proofs.FreeLemmas.{frees_are, no_loose}
use Rattle.mk_expand.proofs.OneChoiceLemmas.{decided_made, decided_spelt, one_open_choice}
use Rattle.mk_expand.proofs.OpenedLemmas.{loosened_append, open_more, open_none, open_size}

-- atoms at places without loose ends stay as they are
pub loosened_same : (template : TemplateView) (pieces : List Piece) (p : ℕ) (xs : List GraphAtom) → ((j : ℕ) → j < length xs → loose_ends template pieces (p + j) ≡ 0)
    → loosened template pieces p xs ≡ xs
loosened_same template pieces p [] none = refl
loosened_same template pieces p (x ∷ xs) none =
    let same : p + 0 ≡ p = omega arith in
    let here : x.free + loose_ends template pieces p ≡ x.free = omega (arith, ap (loose_ends template pieces) same, none 0 (omega arith)) in
    let rest = loosened_same template pieces (p + 1) xs (λ j below.
    (let next : p + 1 + j ≡ p + suc j = omega arith in ap (loose_ends template pieces) next ∙ none (suc j) (omega arith))) in
    ap (λ (n : ℕ). record { test = x.test; free = n } ∷ loosened template pieces (p + 1) xs) here ∙ ap (λ (ys : List GraphAtom). x ∷ ys) rest

-- ---- one template

module _ (template : TemplateView) (kept : IsTemplate template) (apart : HasSitesApart template) (qs : List Piece) (fit : FitSlots template.slots qs) where
  -- copies of an atom, with their loose ends and with their free ends
  copies_same : (x n : ℕ) (test : AtomTest) → 1 ≤ x → n ≤ width (piece template qs x)
      → loosened template qs (before template qs x + 1) (replicate n (record { test = test; free = 0 })) ≡ copies template qs test (before template qs x) n
  unfolding copies
  copies_same x zero test least within = refl
  copies_same x (suc n) test least within =
      let next : suc n ≡ n + 1 = omega arith in
      let atom : GraphAtom = record { test = test; free = 0 } in
      let place : before template qs x + 1 + length (replicate n atom) ≡ before template qs x + (n + 1) = omega (arith, length-replicate {A = GraphAtom} n atom) in
      let own = frees_are template kept apart qs fit x (before template qs x + (n + 1)) (is_of template qs x (n + 1) least (omega arith) (omega arith)) in
      let frees : 0 + loose_ends template qs (before template qs x + (n + 1)) ≡ free_ends template qs template.slots qs (before template qs x + (n + 1)) = omega (arith, own) in
      let rest = copies_same x n test least (omega arith) in
      ap (λ (m : ℕ). loosened template qs (before template qs x + 1) (replicate m atom)) next
      ∙ ap (loosened template qs (before template qs x + 1)) (sym (replicate_more n atom))
      ∙ loosened_append template qs (before template qs x + 1) (replicate n atom) (atom ∷ [])
      ∙ ap (λ (q : ℕ). loosened template qs (before template qs x + 1) (replicate n atom) ++ record { test = test; free = 0 + loose_ends template qs q } ∷ []) place
      ∙ ap (λ (m : ℕ). loosened template qs (before template qs x + 1) (replicate n atom) ++ record { test = test; free = m } ∷ []) frees
      ∙ ap (λ (xs : List GraphAtom). xs ++ record { test = test; free = free_ends template qs template.slots qs (before template qs x + (n + 1)) } ∷ []) rest
      ∙ sym (mapped_more (λ j. record { test = test; free = free_ends template qs template.slots qs (before template qs x + j) }) n)
      ∙ ap (λ (m : ℕ). copies template qs test (before template qs x) m) (sym next)

  -- what stands for a site has no loose ends
  site_same : (x : ℕ) (a : ℕ) (g : List ℕ) (f o : ℕ) → 1 ≤ x → Contains template.slots (Site a g f o) → a ≡ x → (xs : List GraphAtom) → length xs ≡ width (piece template qs x)
      → loosened template qs (before template qs x + 1) xs ≡ xs
  site_same x a g f o least held own xs wide = loosened_same template qs (before template qs x + 1) xs (λ j below.
      (let place : before template qs x + 1 + j ≡ before template qs x + (j + 1) = omega arith in
      ap (loose_ends template qs) place
      ∙ no_loose template kept apart qs fit x (before template qs x + (j + 1)) (is_of template qs x (j + 1) least (omega arith) (omega (arith, wide, below))) a g f o held own))

  -- what an atom becomes
  piece_same : (x : ℕ) → 1 ≤ x → loosened template qs (before template qs x + 1) (bare_atoms template x (piece template qs x)) ≡ atoms_of_piece template qs x (piece template qs x)
  piece_same x least = by (taker template x) refl
    where
      by_slot : (slot : Slot) (q : Piece) → Contains template.slots slot → takes_atom template x slot ≡ true → FitsSlot slot q → piece template qs x ≡ q
          → loosened template qs (before template qs x + 1) (bare_atoms template x q) ≡ atoms_of_piece template qs x q
      by_slot (Link a m f o) (Copies n) held takes fits is = copies_same x n (get_or template.atoms (x - 1) anything) least (omega (arith, ap width is))
      by_slot (Link a m f o) (Member part) held takes fits is = absurd fits
      by_slot (Link a m f o) (Hydrogens n) held takes fits is = absurd fits
      by_slot (Link a m f o) Nothing held takes fits is = absurd fits
      by_slot (Site a g f o) (Copies n) held takes fits is = absurd fits
      by_slot (Site a g f o) (Member part) held takes fits is = site_same x a g f o least held (own_only a x takes) part.atoms (sym (ap width is))
      by_slot (Site a g f o) (Hydrogens n) held takes fits is =
          site_same x a g f o least held (own_only a x takes) (replicate n hydrogen) (length-replicate {A = GraphAtom} n hydrogen ∙ sym (ap width is))
      by_slot (Site a g f o) Nothing held takes fits is = refl

      by : (n : ℕ) → taker template x ≡ n → loosened template qs (before template qs x + 1) (bare_atoms template x (piece template qs x)) ≡ atoms_of_piece template qs x (piece template qs x)
      by zero is =
          let one : piece template qs x ≡ Copies 1 = ap (piece_numbered qs) is in
          subst (λ (q : Piece). loosened template qs (before template qs x + 1) (bare_atoms template x q) ≡ atoms_of_piece template qs x q) (sym one)
          (copies_same x 1 (get_or template.atoms (x - 1) anything) least (omega (arith, ap width one)))
      by (suc k) is =
          let found = taker_is_slot template x k is in
          let here : piece template qs x ≡ get_or qs k (Copies 1) = ap (piece_numbered qs) is in
          subst (λ (q : Piece). loosened template qs (before template qs x + 1) (bare_atoms template x q) ≡ atoms_of_piece template qs x q) (sym here)
          (by_slot (get_or template.slots k (Link 0 0 0 0)) (get_or qs k (Copies 1)) (Contains-get_or template.slots k (Link 0 0 0 0) found.within) (found.takes (Link 0 0 0 0))
          (fit_at template.slots qs k (Link 0 0 0 0) (Copies 1) found.within fit) here)

  atoms_same : (n : ℕ) → loosened template qs 1 (bare_atoms_of template qs n) ≡ atoms_of template qs n
  atoms_same zero = open_none template qs ∙ sym (atoms_none template qs)
  atoms_same (suc n) =
      let next : suc n ≡ n + 1 = omega arith in
      let out = loosened template qs 1 (bare_atoms_of template qs n) in
      let long : length out + 1 ≡ before template qs (n + 1) + 1 =
      (let same : n + 1 - 1 ≡ n = omega arith in omega (arith, open_size template qs n out refl, ap (room template qs) same)) in
      let here : loosened template qs (length out + 1) (bare_atoms template (n + 1) (piece template qs (n + 1))) ≡ atoms_of_piece template qs (n + 1) (piece template qs (n + 1)) =
      ap (λ (q : ℕ). loosened template qs q (bare_atoms template (n + 1) (piece template qs (n + 1)))) long ∙ piece_same (n + 1) (omega arith) in
      ap (λ (m : ℕ). loosened template qs 1 (bare_atoms_of template qs m)) next
      ∙ sym (open_more template qs n out (out ++ loosened template qs (length out + 1) (bare_atoms template (n + 1) (piece template qs (n + 1)))) refl refl)
      ∙ ap (λ (xs : List GraphAtom). out ++ xs) here
      ∙ ap (λ (xs : List GraphAtom). xs ++ atoms_of_piece template qs (n + 1) (piece template qs (n + 1))) (atoms_same n)
      ∙ sym (atoms_more template qs n) ∙ ap (atoms_of template qs) (sym next)

  -- what a template becomes where its slots have become pieces that fit them
  pub opened_is : opened template qs ≡ joined template qs
  unfolding opened joined
  opened_is = ap (λ (xs : List GraphAtom). record { atoms = xs; bonds = (joined template qs).bonds; points = (joined template qs).points }) (atoms_same (length template.atoms))

-- ---- choices

-- what slots become by a choice, as an open choice that leaves none of them open
pub decided_pieces : (query : QueryView) (fits : QueryFits query) (slots : List Slot) (choice : Choice) → IsChoice query slots choice
    → open_pieces query slots (decided choice) ≡ pieces_of query slots choice
unfolding open_pieces pieces_of
decided_pieces query fits [] done is = refl
decided_pieces query fits [] (repeated n others) is = absurd is
decided_pieces query fits [] (unfilled n others) is = absurd is
decided_pieces query fits [] (filled k inside others) is = absurd is
decided_pieces query fits (Link atom most from to ∷ slots) done is = absurd is
decided_pieces query fits (Link atom most from to ∷ slots) (repeated n others) is = ap (λ (ps : List Piece). Copies n ∷ ps) (decided_pieces query fits slots others is.2)
decided_pieces query fits (Link atom most from to ∷ slots) (unfilled n others) is = absurd is
decided_pieces query fits (Link atom most from to ∷ slots) (filled k inside others) is = absurd is
decided_pieces query fits (Site atom groups first second ∷ slots) done is = absurd is
decided_pieces query fits (Site atom groups first second ∷ slots) (repeated n others) is = absurd is
decided_pieces query fits (Site atom groups first second ∷ slots) (unfilled n others) is =
    ap (λ (ps : List Piece). left_open query (Site atom groups first second) ∷ ps) (decided_pieces query fits slots others is.1)
decided_pieces query fits (Site atom groups first second ∷ slots) (filled k inside others) is =
    let u = member query (Site atom groups first second) k in
    let there = chosen_there query (Site atom groups first second) k is.0 is.1 in
    let inner = decided_pieces query fits (slots_of query u) inside is.2 in
    let whole = opened_is (template_of query u) (kept_template query fits u there.0) (sites_apart query fits u there.0) (pieces_of query (slots_of query u) inside)
    (template_fit query fits u there.0 inside is.2) in
    ap (λ (ps : List Piece). Member (opened (template_of query u) ps) ∷ open_pieces query slots (decided others)) inner
    ∙ ap (λ (part : Fragment). Member part ∷ open_pieces query slots (decided others)) whole
    ∙ ap (λ (ps : List Piece). Member (joined (template_of query u) (pieces_of query (slots_of query u) inside)) ∷ ps) (decided_pieces query fits slots others is.3)

-- each structural code is an open code, and makes the same
pub law : CodesAreOpenCodes
unfolding open_expansion expansion
law query t choice fits there is = (
  decided_made query (slots_of query t) choice is,
  decided_spelt choice,
  ap (opened (template_of query t)) (decided_pieces query fits (slots_of query t) choice is)
      ∙ opened_is (template_of query t) (kept_template query fits t there) (sites_apart query fits t there) (pieces_of query (slots_of query t) choice) (template_fit query fits t there choice is),
)

-- ---- the walk

pub decided_begins : (query : QueryView) (code : List ℕ) → IsCode query 0 code → OpenBegins query (slots_of query 0) code
decided_begins query code is = record {
  choice = decided is.choice;
  rest = [];
  made = decided_made query (slots_of query 0) is.choice is.made;
  spelt = append-nil (open_spelling (decided is.choice)) ∙ decided_spelt is.choice ∙ is.spelt;
}

-- what the walk of an open code makes of the root by a code is the expansion
pub decided_expanded : (query : QueryView) → QueryFits query → (code rest : List ℕ) (part : Fragment) (one_ended : Bool) → IsCode query 0 code → IsOpened query 0 code rest part one_ended
    → IsExpanded query 0 code rest part
unfolding decided_begins
decided_expanded query fits code rest part one_ended is opened_so =
    let begins = decided_begins query code is in
    let same = one_open_choice query (slots_of query 0) begins.choice opened_so.choice [] rest begins.made opened_so.made (begins.spelt ∙ sym opened_so.spelt) in
    let same_law = law query 0 is.choice fits (root_small query fits).there is.made in
    record {
      choice = is.choice;
      made = is.made;
      spelt = ap (λ (xs : List ℕ). xs ++ rest) (sym same_law.1) ∙ ap (λ c. open_spelling c ++ rest) same.choices ∙ opened_so.spelt;
      is = opened_so.is ∙ ap (open_expansion query 0) (sym same.choices) ∙ same_law.2;
    }
