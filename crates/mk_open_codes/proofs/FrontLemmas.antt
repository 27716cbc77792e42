-- Fronts as open codes, and past a front.
--     opened_at            a choice whose numbers begin with a front, open behind it
--     all_open             all slots left open, an open choice that agrees with each choice
--     has_open_code        a front with which a code begins has an open code
--     completed            each code that begins with the front completes it
--     own_code             where an occurrence begins with the front, so does its code
--     none_inside          no occurrence begins with a front whose graph has no embedding
--     passed_over          what remains inside a front that no code can hold
use Rattle.std.proofs.Common.{◌≡◌, ◌∙◌, ℕ, zero, suc, ◌+◌, ◌-◌, ◌⊎◌, inl, inr, List, [], ◌∷◌, ◌++◌, length, replicate, refl, sym, ap, subst, arith, append_assoc}
use Rattle.std.proofs.lemmas.Bool.{cases_lt}
use Rattle.std.proofs.lemmas.List.{append-nil}
use Rattle.mk_text.specs.Rising.{IsBelow}
use Rattle.mk_text.proofs.ForCallers.{below_through}
use Rattle.mk_model.specs.declared.template.Slot.{Slot}
use Rattle.mk_model.specs.declared.template.Slot.TheVariants.{Link, Site}
use Rattle.mk_model.specs.Codes.{Choice, IsChoice, IsCode, spelling}
use Rattle.mk_model.specs.Codes.Choice.{done, repeated, unfilled, filled}
use Rattle.mk_model.specs.Graphs.{GraphView}
use Rattle.mk_model.specs.Hits.{HasNoEmbedding}
use Rattle.mk_model.specs.Keys.{IsOccurrence}
use Rattle.mk_model.specs.Labels.{member}
use Rattle.mk_model.specs.Molecules.{Molecule}
use Rattle.mk_model.specs.Nodes.{BeginsCode}
use Rattle.mk_model.specs.Queries.{QueryView, slots_of}
use Rattle.mk_model.specs.QueryFits.{QueryFits}
use Rattle.mk_model.proofs.ForCallers.{below_next, embedding_of, one_choice}
use Rattle.mk_open_codes.specs.Fronts.{FrontsAreCompleted, FrontsArePassedOver, FrontsHaveOpenCodes, front_code}
use Rattle.mk_expand.specs.OpenCodes.{IsOpenChoice, IsOpenCode, OpenChoice, open_spelling}
use Rattle.mk_open_codes.specs.Completions.{Agrees, Completes}
use Rattle.mk_expand.specs.OpenCodes.OpenChoice.{no_more, undecided, repeats, vacates, fills}
use Rattle.mk_expand.specs.OpenGraphs.{IsOpenGraph}
use Rattle.mk_open_codes.proofs.LawLemmas.{no_hit}
use Rattle.mk_expand.proofs.OneChoiceLemmas.{one_open_choice}
use Rattle.mk_expand.proofs.OneChoiceLemmas.{heads, tails}

-- ---- numbers

-- so many slots that are left open
abbrev pub zeros : ℕ → List ℕ
zeros n = replicate n 0

-- zeros behind zeros
pub zeros_add : (n m : ℕ) → zeros n ++ zeros m ≡ zeros (n + m)
zeros_add zero m = (let same : m ≡ 0 + m = omega arith in ap (λ (k : ℕ). zeros k) same)
zeros_add (suc n) m = (let same : suc (n + m) ≡ suc n + m = omega arith in ap (λ (xs : List ℕ). 0 ∷ xs) (zeros_add n m) ∙ ap (λ (k : ℕ). zeros k) same)

nothing_left : (xs ys : List ℕ) → xs ++ ys ≡ [] → xs ≡ []
nothing_left [] ys e = refl
nothing_left (x ∷ xs) ys e = absurd cc

-- ---- all slots open

-- the open choice that leaves all slots open
abbrev pub all_open : List Slot → OpenChoice
all_open [] = no_more
all_open (slot ∷ slots) = undecided (all_open slots)

-- it is one at the slots
pub all_open_made : (query : QueryView) (slots : List Slot) → IsOpenChoice query slots (all_open slots)
all_open_made query [] = tt
all_open_made query (slot ∷ slots) = all_open_made query slots

-- it has 0 for each slot
pub all_open_spelt : (slots : List Slot) → open_spelling (all_open slots) ≡ zeros (length slots)
all_open_spelt [] = refl
all_open_spelt (slot ∷ slots) = ap (λ (xs : List ℕ). 0 ∷ xs) (all_open_spelt slots)

-- and agrees with each choice
pub all_open_agrees : (query : QueryView) (slots : List Slot) (choice : Choice) → IsChoice query slots choice → Agrees (all_open slots) choice
all_open_agrees query [] done is = tt
all_open_agrees query [] (repeated n more) is = absurd is
all_open_agrees query [] (unfilled n more) is = absurd is
all_open_agrees query [] (filled k inside more) is = absurd is
all_open_agrees query (Link atom most from to ∷ slots) done is = absurd is
all_open_agrees query (Link atom most from to ∷ slots) (repeated n more) is = all_open_agrees query slots more is.2
all_open_agrees query (Link atom most from to ∷ slots) (unfilled n more) is = absurd is
all_open_agrees query (Link atom most from to ∷ slots) (filled k inside more) is = absurd is
all_open_agrees query (Site atom groups first second ∷ slots) done is = absurd is
all_open_agrees query (Site atom groups first second ∷ slots) (repeated n more) is = absurd is
all_open_agrees query (Site atom groups first second ∷ slots) (unfilled n more) is = all_open_agrees query slots more is.1
all_open_agrees query (Site atom groups first second ∷ slots) (filled k inside more) is = all_open_agrees query slots more is.3

-- ---- open behind a front

-- An open choice agrees with the choice. Either it is the front with slots left open behind, or the
-- front goes on behind its numbers.
pub record IsOpenedAt (query : QueryView) (slots : List Slot) (choice : Choice) (front more rest : List ℕ) : Type 0 where
  pub open_choice : OpenChoice
  pub made : IsOpenChoice query slots open_choice
  pub agrees : Agrees open_choice choice
  pub ends : ((n : ℕ) × (open_spelling open_choice ≡ front ++ zeros n)) ⊎ ((front' : List ℕ) × (front ≡ open_spelling open_choice ++ front') × (rest ≡ front' ++ more))

none_in_front : (query : QueryView) (slots : List Slot) (choice : Choice) (more rest : List ℕ) → IsChoice query slots choice → IsOpenedAt query slots choice [] more rest
none_in_front query slots choice more rest is = record {
  open_choice = all_open slots;
  made = all_open_made query slots;
  agrees = all_open_agrees query slots choice is;
  ends = inl (length slots, all_open_spelt slots);
}

-- a slot with one number in front of others
one_in_front : (query : QueryView) (slots : List Slot) (choice : Choice) (front more rest : List ℕ) (f n : ℕ) (o : OpenChoice) → n ≡ f
    → ((k : ℕ) × (open_spelling o ≡ front ++ zeros k)) ⊎ ((front' : List ℕ) × (front ≡ open_spelling o ++ front') × (rest ≡ front' ++ more))
    → ((k : ℕ) × (n ∷ open_spelling o ≡ (f ∷ front) ++ zeros k)) ⊎ ((front' : List ℕ) × (f ∷ front ≡ (n ∷ open_spelling o) ++ front') × (rest ≡ front' ++ more))
one_in_front query slots choice front more rest f n o same (inl (k, is)) = inl (k, ap (λ (x : ℕ). x ∷ open_spelling o) same ∙ ap (λ (xs : List ℕ). f ∷ xs) is)
one_in_front query slots choice front more rest f n o same (inr (front', is, behind)) =
    inr (front', ap (λ (xs : List ℕ). f ∷ xs) is ∙ ap (λ (x : ℕ). x ∷ (open_spelling o ++ front')) (sym same), behind)

pub opened_at : (query : QueryView) (slots : List Slot) (choice : Choice) (front more rest : List ℕ) → IsChoice query slots choice → spelling choice ++ rest ≡ front ++ more
    → IsOpenedAt query slots choice front more rest
opened_at query slots choice [] more rest is same = none_in_front query slots choice more rest is
opened_at query [] done (f ∷ front) more rest is same = record { open_choice = no_more; made = tt; agrees = tt; ends = inr (f ∷ front, refl, same) }
opened_at query [] (repeated n others) (f ∷ front) more rest is same = absurd is
opened_at query [] (unfilled n others) (f ∷ front) more rest is same = absurd is
opened_at query [] (filled k inside others) (f ∷ front) more rest is same = absurd is
opened_at query (Link atom most from to ∷ slots) done (f ∷ front) more rest is same = absurd is
opened_at query (Link atom most from to ∷ slots) (unfilled n others) (f ∷ front) more rest is same = absurd is
opened_at query (Link atom most from to ∷ slots) (filled k inside others) (f ∷ front) more rest is same = absurd is
opened_at query (Link atom most from to ∷ slots) (repeated n others) (f ∷ front) more rest is same =
    let behind = opened_at query slots others front more rest is.2 (tails n f _ _ same) in
    record {
      open_choice = repeats n behind.open_choice;
      made = (is.0, is.1, behind.made);
      agrees = (refl, behind.agrees);
      ends = one_in_front query slots others front more rest f n behind.open_choice (heads n f _ _ same) behind.ends;
    }
opened_at query (Site atom groups first second ∷ slots) done (f ∷ front) more rest is same = absurd is
opened_at query (Site atom groups first second ∷ slots) (repeated n others) (f ∷ front) more rest is same = absurd is
opened_at query (Site atom groups first second ∷ slots) (unfilled n others) (f ∷ front) more rest is same =
    let behind = opened_at query slots others front more rest is.1 (tails n f _ _ same) in
    record {
      open_choice = vacates n behind.open_choice;
      made = (is.0, behind.made);
      agrees = (refl, behind.agrees);
      ends = one_in_front query slots others front more rest f n behind.open_choice (heads n f _ _ same) behind.ends;
    }
opened_at query (Site atom groups first second ∷ slots) (filled k inside others) (f ∷ front) more rest is same =
    let both : spelling inside ++ (spelling others ++ rest) ≡ front ++ more = sym (append_assoc (spelling inside) (spelling others) rest) ∙ tails k f _ _ same in
    let number = heads k f _ _ same in
    let within = opened_at query (slots_of query (member query (Site atom groups first second) k)) inside front more (spelling others ++ rest) is.2 both in
    by within number within.ends (λ front' at. opened_at query slots others front' more rest is.3 at)
  where
    by : (within : IsOpenedAt query (slots_of query (member query (Site atom groups first second) k)) inside front more (spelling others ++ rest)) → k ≡ f
        → ((n : ℕ) × (open_spelling within.open_choice ≡ front ++ zeros n))
        ⊎ ((front' : List ℕ) × (front ≡ open_spelling within.open_choice ++ front') × (spelling others ++ rest ≡ front' ++ more))
        → ((front' : List ℕ) → spelling others ++ rest ≡ front' ++ more → IsOpenedAt query slots others front' more rest)
        → IsOpenedAt query (Site atom groups first second ∷ slots) (filled k inside others) (f ∷ front) more rest
    by within number (inl (n, spelt)) later = record {
      open_choice = fills k within.open_choice (all_open slots);
      made = (is.0, is.1, within.made, all_open_made query slots);
      agrees = (refl, within.agrees, all_open_agrees query slots others is.3);
      ends = inl (
        n + length slots,
        ap (λ (xs : List ℕ). k ∷ (open_spelling within.open_choice ++ xs)) (all_open_spelt slots)
            ∙ ap (λ (xs : List ℕ). k ∷ (xs ++ zeros (length slots))) spelt
            ∙ ap (λ (xs : List ℕ). k ∷ xs) (append_assoc front (zeros n) (zeros (length slots)) ∙ ap (λ (xs : List ℕ). front ++ xs) (zeros_add n (length slots)))
            ∙ ap (λ (x : ℕ). x ∷ (front ++ zeros (n + length slots))) number,
      );
    }
    by within number (inr (front', front_is, behind)) later =
        let others_at = later front' behind in
        record {
          open_choice = fills k within.open_choice others_at.open_choice;
          made = (is.0, is.1, within.made, others_at.made);
          agrees = (refl, within.agrees, others_at.agrees);
          ends = whole others_at others_at.ends;
        }
      where
        whole : (at : IsOpenedAt query slots others front' more rest)
            → ((n : ℕ) × (open_spelling at.open_choice ≡ front' ++ zeros n)) ⊎ ((front'' : List ℕ) × (front' ≡ open_spelling at.open_choice ++ front'') × (rest ≡ front'' ++ more))
            → ((n : ℕ) × (k ∷ (open_spelling within.open_choice ++ open_spelling at.open_choice) ≡ (f ∷ front) ++ zeros n))
            ⊎ ((front'' : List ℕ) × (f ∷ front ≡ (k ∷ (open_spelling within.open_choice ++ open_spelling at.open_choice)) ++ front'') × (rest ≡ front'' ++ more))
        whole at (inl (n, spelt)) = inl (
          n,
          ap (λ (x : ℕ). x ∷ (open_spelling within.open_choice ++ open_spelling at.open_choice)) number
              ∙ ap (λ (xs : List ℕ). f ∷ (open_spelling within.open_choice ++ xs)) spelt
              ∙ ap (λ (xs : List ℕ). f ∷ xs) (sym (append_assoc (open_spelling within.open_choice) front' (zeros n)) ∙ ap (λ (xs : List ℕ). xs ++ zeros n) (sym front_is)),
        )
        whole at (inr (front'', front'_is, rest_is)) = inr (
          front'',
          ap (λ (xs : List ℕ). f ∷ xs) (front_is ∙ ap (λ (xs : List ℕ). open_spelling within.open_choice ++ xs) front'_is
              ∙ sym (append_assoc (open_spelling within.open_choice) (open_spelling at.open_choice) front''))
              ∙ ap (λ (x : ℕ). x ∷ ((open_spelling within.open_choice ++ open_spelling at.open_choice) ++ front'')) (sym number),
          rest_is,
        )

-- ---- the open code of a front

-- the choice that a code spells, open behind a front
record IsOpenFront (query : QueryView) (front : List ℕ) (choice : Choice) : Type 0 where
  open_choice : OpenChoice
  made : IsOpenChoice query (slots_of query 0) open_choice
  agrees : Agrees open_choice choice
  n : ℕ
  spelt : open_spelling open_choice ≡ front ++ zeros n

open_front : (query : QueryView) (front more : List ℕ) (code : IsCode query 0 (front ++ more)) → IsOpenFront query front code.choice
open_front query front more code = by found found.ends
  where
    found : IsOpenedAt query (slots_of query 0) code.choice front more []
    found = opened_at query (slots_of query 0) code.choice front more [] code.made (append-nil (spelling code.choice) ∙ code.spelt)

    by : (at : IsOpenedAt query (slots_of query 0) code.choice front more [])
        → ((n : ℕ) × (open_spelling at.open_choice ≡ front ++ zeros n)) ⊎ ((front' : List ℕ) × (front ≡ open_spelling at.open_choice ++ front') × ([] ≡ front' ++ more))
        → IsOpenFront query front code.choice
    by at (inl (n, spelt)) = record { open_choice = at.open_choice; made = at.made; agrees = at.agrees; n = n; spelt = spelt }
    by at (inr (front', front_is, none)) =
        let empty : front' ≡ [] = nothing_left front' more (sym none) in
        let whole : front ≡ open_spelling at.open_choice = front_is ∙ ap (λ (xs : List ℕ). open_spelling at.open_choice ++ xs) empty ∙ append-nil (open_spelling at.open_choice) in
        record { open_choice = at.open_choice; made = at.made; agrees = at.agrees; n = 0; spelt = sym whole ∙ sym (append-nil front) }

pub has_open_code : FrontsHaveOpenCodes
has_open_code query front begins =
    let found = open_front query front begins.more begins.code in
    (found.n, record { choice = found.open_choice; made = found.made; spelt = found.spelt })

-- open codes of one front are one
one_front : (query : QueryView) (front : List ℕ) (o o' : OpenChoice) (n m : ℕ) → IsOpenChoice query (slots_of query 0) o → IsOpenChoice query (slots_of query 0) o'
    → open_spelling o ≡ front ++ zeros n → open_spelling o' ≡ front ++ zeros m → o ≡ o'
one_front query front o o' n m made made' spelt spelt' = elim (cases_lt n m) [
  | inl less ↦ (let same : n + (m - n) ≡ m = omega arith in
      let whole : open_spelling o ++ zeros (m - n) ≡ open_spelling o' ++ [] =
      ap (λ (xs : List ℕ). xs ++ zeros (m - n)) spelt ∙ append_assoc front (zeros n) (zeros (m - n)) ∙ ap (λ (xs : List ℕ). front ++ xs) (zeros_add n (m - n))
      ∙ ap (λ (k : ℕ). front ++ zeros k) same ∙ sym spelt' ∙ sym (append-nil (open_spelling o')) in
      (one_open_choice query (slots_of query 0) o o' (zeros (m - n)) [] made made' whole).choices)
  | inr upto ↦ (let same : m + (n - m) ≡ n = omega arith in
      let whole : open_spelling o' ++ zeros (n - m) ≡ open_spelling o ++ [] =
      ap (λ (xs : List ℕ). xs ++ zeros (n - m)) spelt' ∙ append_assoc front (zeros m) (zeros (n - m)) ∙ ap (λ (xs : List ℕ). front ++ xs) (zeros_add m (n - m))
      ∙ ap (λ (k : ℕ). front ++ zeros k) same ∙ sym spelt ∙ sym (append-nil (open_spelling o)) in
      sym (one_open_choice query (slots_of query 0) o' o (zeros (n - m)) [] made' made whole).choices)
]

pub completed : FrontsAreCompleted
completed query front more n is code =
    let found = open_front query front more code in
    let same = one_front query front found.open_choice is.choice found.n n found.made is.made found.spelt is.spelt in
    record {
      choice = code.choice;
      made = code.made;
      spelt = code.spelt;
      open_choice = is.choice;
      open_made = is.made;
      open_spelt = is.spelt;
      agrees = subst (λ (o : OpenChoice). Agrees o code.choice) same found.agrees;
    }

-- ---- past a front

-- what isn't below numbers with a last one and others, but below them with the last one raised,
-- begins with them
goes_on : (numbers : List ℕ) (c : ℕ) (tail xs : List ℕ) → (IsBelow xs (numbers ++ c ∷ tail) → ⊥) → IsBelow xs (numbers ++ (c + 1) ∷ []) → (more : List ℕ) × (xs ≡ (numbers ++ c ∷ []) ++ more)
goes_on [] c tail [] not below = absurd (not tt)
goes_on [] c tail (x ∷ xs) not (inl less) = elim (cases_lt x c) [
  | inl under ↦ absurd (not (inl under))
  | inr upto ↦ (let same : x ≡ c = omega arith in (xs, ap (λ (y : ℕ). y ∷ xs) same))
]
goes_on [] c tail (x ∷ xs) not (inr h) = absurd h.1
goes_on (y ∷ numbers) c tail [] not below = absurd (not tt)
goes_on (y ∷ numbers) c tail (x ∷ xs) not (inl less) = absurd (not (inl less))
goes_on (y ∷ numbers) c tail (x ∷ xs) not (inr h) =
    let behind = goes_on numbers c tail xs (λ below. not (inr (h.0, below))) h.1 in
    (behind.0, ap (λ (z : ℕ). z ∷ xs) h.0 ∙ ap (λ (zs : List ℕ). y ∷ zs) behind.1)

-- two beginnings of one list: one of them begins the other
one_begins : (xs ys us vs : List ℕ) → xs ++ us ≡ ys ++ vs → ((m : List ℕ) × (xs ≡ ys ++ m)) ⊎ ((m : List ℕ) × (ys ≡ xs ++ m))
one_begins [] ys us vs same = inr (ys, refl)
one_begins (x ∷ xs) [] us vs same = inl (x ∷ xs, refl)
one_begins (x ∷ xs) (y ∷ ys) us vs same = by (one_begins xs ys us vs (tails x y _ _ same))
  where
    first : x ≡ y
    first = heads x y _ _ same

    by : ((m : List ℕ) × (xs ≡ ys ++ m)) ⊎ ((m : List ℕ) × (ys ≡ xs ++ m)) → ((m : List ℕ) × (x ∷ xs ≡ (y ∷ ys) ++ m)) ⊎ ((m : List ℕ) × (y ∷ ys ≡ (x ∷ xs) ++ m))
    by (inl (m, is)) = inl (m, ap (λ (z : ℕ). z ∷ xs) first ∙ ap (λ (zs : List ℕ). y ∷ zs) is)
    by (inr (m, is)) = inr (m, ap (λ (z : ℕ). z ∷ ys) (sym first) ∙ ap (λ (zs : List ℕ). x ∷ zs) is)

-- where an occurrence begins with a front with which a code begins, its own code begins with it
pub own_code : (query : QueryView) (mol : Molecule) (front more : List ℕ) → BeginsCode query front → (occurs : IsOccurrence query mol (front ++ more))
    → (m : List ℕ) × (occurs.code ≡ front ++ m)
own_code query mol front more begins occurs = by (one_begins occurs.code front occurs.hit more (sym occurs.whole))
  where
    own : IsCode query 0 occurs.code
    own = record { choice = occurs.expanded.choice; made = occurs.expanded.made; spelt = occurs.expanded.spelt }

    by : ((m : List ℕ) × (occurs.code ≡ front ++ m)) ⊎ ((m : List ℕ) × (front ≡ occurs.code ++ m)) → (m : List ℕ) × (occurs.code ≡ front ++ m)
    by (inl found) = found
    by (inr (m, is)) =
        let longer : occurs.code ++ (m ++ begins.more) ≡ front ++ begins.more = sym (append_assoc occurs.code m begins.more) ∙ ap (λ (xs : List ℕ). xs ++ begins.more) (sym is) in
        let same = one_choice query (slots_of query 0) own.choice begins.code.choice (m ++ begins.more) [] own.made begins.code.made
        (ap (λ (xs : List ℕ). xs ++ (m ++ begins.more)) own.spelt ∙ longer ∙ sym begins.code.spelt ∙ sym (append-nil (spelling begins.code.choice))) in
        let empty : m ≡ [] = nothing_left m begins.more same.rests in
        ([], sym (is ∙ ap (λ (xs : List ℕ). occurs.code ++ xs) empty ∙ append-nil occurs.code) ∙ sym (append-nil front))

-- no occurrence begins with a front whose graph has no embedding
pub none_inside : (query : QueryView) (mol : Molecule) (front more : List ℕ) (n : ℕ) (part : GraphView) → QueryFits query → BeginsCode query front → IsOpenGraph query (front_code front n) part
    → HasNoEmbedding part mol → IsOccurrence query mol (front ++ more) → ⊥
none_inside query mol front more n part fits begins graph none occurs =
    let begun = own_code query mol front more begins occurs in
    let is_open : IsOpenCode query 0 (front_code front n) = record { choice = graph.choice; made = graph.made; spelt = graph.spelt } in
    let own : IsCode query 0 occurs.code = record { choice = occurs.expanded.choice; made = occurs.expanded.made; spelt = occurs.expanded.spelt } in
    let completes : Completes query occurs.code (front_code front n) =
    subst (λ (code : List ℕ). Completes query code (front_code front n)) (sym begun.1) (completed query front begun.0 n is_open (subst (IsCode query 0) begun.1 own)) in
    no_hit query (front_code front n) part mol fits graph none occurs.code occurs.graph completes occurs.expanded occurs.hit (embedding_of occurs.graph mol occurs.hit occurs.hits)

pub passed_over : FrontsArePassedOver
passed_over query mol numbers tail last n part fits begins graph none = record {
  on = λ xs has not below.
      let inside = goes_on numbers last tail xs not below in
      none_inside query mol (numbers ++ last ∷ []) inside.0 n part fits begins graph none (subst (IsOccurrence query mol) inside.1 has);
  back = λ xs has not below. not (below_through xs (numbers ++ last ∷ tail) (numbers ++ (last + 1) ∷ []) below (below_next numbers last (last + 1) tail [] (omega arith)));
}
