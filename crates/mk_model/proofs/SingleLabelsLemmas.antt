-- Where each site bears one label, all is as it was.
--     law             codes, valid codes, expansions and keys are those of the former texts
--     members_same, holds_same, draws_same      the words of a label
--     choice_before, choice_after      choices, both ways
use Rattle.std.proofs.Common.{◌≡◌, ℕ, suc, ◌-◌, ◌≤◌, inl, inr, Bool, true, false, ◌&&◌, List, [], ◌∷◌, ◌++◌, length, get_or, Option, Some, None, refl, sym, ap, subst, ◌∙◌, arith, All}
use Rattle.std.specs.Prelude.{◌==◌, Contains, nat_le, slice_get, slice_index}
use Rattle.std.proofs.lemmas.Bool.{cases_eq, leb-true}
use Rattle.std.proofs.lemmas.Bool.Decides.{nat_tests}
use Rattle.std.proofs.lemmas.List.Sums.{sum_by-append, sum_by-cons}
use Rattle.mk_model.specs.declared.template.Slot.{Slot}
use Rattle.mk_model.specs.declared.template.Slot.TheVariants.{Link, Site}
use Rattle.mk_model.specs.Codes.{Choice, IsChoice, IsCode}
use Rattle.mk_model.specs.Codes.Choice.{done, repeated, unfilled, filled}
use Rattle.mk_model.specs.Expansions.{IsExpansion, expansion, joined, left_open, pieces_of, template_of, unmarked}
use Rattle.mk_model.specs.Graphs.{GraphView}
use Rattle.mk_model.specs.Keys.{IsAmong, IsKey, IsOccurrence}
use Rattle.mk_model.specs.Labels.{asks_rest_hydrogens, bears_label, draws_rest_hydrogens, holds_member_of, is_filled_by, joint_members, site_labels, member, members_at}
use Rattle.mk_model.specs.Logic.{IsValid, Standing, filled_of, sites_of, standing_sites}
use Rattle.mk_model.specs.Molecules.{Molecule}
use Rattle.mk_model.specs.Pieces.{Fragment, Piece}
use Rattle.mk_model.specs.Pieces.Piece.{Copies, Member}
use Rattle.mk_model.specs.Queries.{QueryView, slots_of}
use Rattle.mk_model.specs.QueryFits.{AreRisingLabels, QueryFits}
use Rattle.mk_model.specs.SingleLabels.{HasOneLabel, HasSingleLabels, IsAsBefore, IsChoiceByLabel, IsCodeByLabel, IsExpansionByLabel, IsKeyByLabel, IsOccurrenceByLabel, IsValidByLabel, SingleLabelsAsBefore, bears_by_label, draws_by_label, expansion_by_label, filled_by_label, is_filled_by_label, left_open_by_label, member_by_label, members_by_label, pieces_by_label, sites_by_label, standing_by_label}
use Rattle.mk_model.specs.Templates.{TemplateView}
use Rattle.mk_model.proofs.LogicLemmas.{allowed_same}
use Rattle.mk_model.proofs.MembersLemmas.{held_by_only, of_one_label, one_only}
use Rattle.mk_model.proofs.NumbersLemmas.{one_if, or_false}
use Rattle.mk_model.proofs.PlaceLemmas.{all_at}

-- a slot whose labels rise, and which bears one where it is a site
pub record IsSingle (slot : Slot) : Type 0 where
  pub one : HasOneLabel slot
  pub rise : AreRisingLabels (site_labels slot)

-- the slots behind the first
tail : (slot : Slot) (slots : List Slot) → All IsSingle (slot ∷ slots) → All IsSingle slots
tail slot slots all = λ k d below. all (suc k) d (omega (arith, below))

head : (slot : Slot) (slots : List Slot) → All IsSingle (slot ∷ slots) → IsSingle slot
head slot slots all = all 0 slot (omega arith)

equal_back : (a b : ℕ) → (a == b) ≡ (b == a)
equal_back a b =
    elim (cases_eq a b) [
      | inl same ↦ rw same refl
      | inr other ↦ (let one : (a == b) ≡ false = grind (arith, nat_tests) in let two : (b == a) ≡ false = grind (arith, nat_tests) in rw (one, two) refl)
    ]

module _ (query : QueryView) (fits : QueryFits query) (single : HasSingleLabels query) where
  -- the slots of each template
  slots_single : (t : ℕ) → All IsSingle (slots_of query t)
  slots_single t = by_template (slice_get query.templates t) refl
    where
      by_template : (o : Option TemplateView) → slice_get query.templates t ≡ o → All IsSingle (slots_of query t)
      by_template None e = rw e (λ k d below. absurd (omega (arith, below)))
      by_template (Some template) e =
          rw e (λ k d below. record {
            one = all_at (λ (one : TemplateView). All HasOneLabel one.slots) query.templates t template single e k d below;
            rise = all_at (λ (one : TemplateView). All (λ slot. AreRisingLabels (site_labels slot)) one.slots) query.templates t template fits.labels_rise e k d below;
          })

  -- ---- the words

  only : (atom : ℕ) (groups : List ℕ) (first second : ℕ) → IsSingle (Site atom groups first second) → groups ≡ get_or groups 0 0 ∷ []
  only atom groups first second is = (let one = is.one in one_only groups (omega (arith, one)) (omega (arith, one)))

  members_same : (slot : Slot) → IsSingle slot → members_at query slot ≡ members_by_label query slot
  members_same (Link atom most from to) is = refl
  members_same (Site atom groups first second) is = ap (joint_members query) (only atom groups first second is) ∙ of_one_label query fits (get_or groups 0 0)

  member_same : (slot : Slot) (k : ℕ) → IsSingle slot → member query slot k ≡ member_by_label query slot k
  member_same slot k is = ap (λ (xs : List ℕ). slice_index xs (k - 1)) (members_same slot is)

  bears_same : (slot : Slot) (g : ℕ) → IsSingle slot → bears_label slot g ≡ bears_by_label slot g
  bears_same (Link atom most from to) g is = refl
  bears_same (Site atom groups first second) g is =
      ap (λ (labels : List ℕ). bears_label (Site atom labels first second) g) (only atom groups first second is) ∙ or_false (get_or groups 0 0 == g)

  draws_same : (slot : Slot) → IsSingle slot → draws_rest_hydrogens query slot ≡ draws_by_label query slot
  draws_same (Link atom most from to) is = refl
  draws_same (Site atom groups first second) is =
      ap (λ (labels : List ℕ). draws_rest_hydrogens query (Site atom labels first second)) (only atom groups first second is)
      ∙ or_false (asks_rest_hydrogens query (get_or groups 0 0))

  -- a site holds a member of its one group where it is filled
  holds_same : (atom : ℕ) (groups : List ℕ) (first second : ℕ) → IsSingle (Site atom groups first second) → (k g : ℕ) → 1 ≤ k → 1 ≤ g
      → holds_member_of query (Site atom groups first second) k g
      ≡ (bears_by_label (Site atom groups first second) g && is_filled_by_label query (Site atom groups first second) k)
  holds_same atom groups first second is k g least least' = by_test (is_filled_by query (Site atom groups first second) k) refl
    where
      fills_same : is_filled_by query (Site atom groups first second) k ≡ is_filled_by_label query (Site atom groups first second) k
      fills_same = ap (λ (xs : List ℕ). nat_le k (length xs)) (members_same (Site atom groups first second) is)

      and_so : (a b : Bool) → b ≡ true → a ≡ (a && b)
      and_so true b e = sym e
      and_so false b e = refl

      and_not : (a b : Bool) → b ≡ false → false ≡ (a && b)
      and_not true b e = sym e
      and_not false b e = refl

      by_test : (b : Bool) → is_filled_by query (Site atom groups first second) k ≡ b
          → holds_member_of query (Site atom groups first second) k g ≡ (bears_by_label (Site atom groups first second) g && is_filled_by_label query (Site atom groups first second) k)
      by_test true e =
          let one = is.one in
          held_by_only query fits (Site atom groups first second) groups k is.rise refl (omega (arith, one)) (omega (arith, one)) least
          (leb-true k (length (members_at query (Site atom groups first second))) e) g least'
          ∙ equal_back g (get_or groups 0 0) ∙ and_so (get_or groups 0 0 == g) (is_filled_by_label query (Site atom groups first second) k) (sym fills_same ∙ e)
      by_test false e = rw e (and_not (bears_by_label (Site atom groups first second) g) (is_filled_by_label query (Site atom groups first second) k) (sym fills_same ∙ e))

  -- ---- choices

  choice_before : (slots : List Slot) (choice : Choice) → All IsSingle slots → IsChoice query slots choice → IsChoiceByLabel query slots choice
  choice_before [] done all is = tt
  choice_before [] (repeated n others) all is = absurd is
  choice_before [] (unfilled n others) all is = absurd is
  choice_before [] (filled k inside others) all is = absurd is
  choice_before (Link atom most from to ∷ slots) done all is = absurd is
  choice_before (Link atom most from to ∷ slots) (repeated n others) all is = (is.0, is.1, choice_before slots others (tail (Link atom most from to) slots all) is.2)
  choice_before (Link atom most from to ∷ slots) (unfilled n others) all is = absurd is
  choice_before (Link atom most from to ∷ slots) (filled k inside others) all is = absurd is
  choice_before (Site atom groups first second ∷ slots) done all is = absurd is
  choice_before (Site atom groups first second ∷ slots) (repeated n others) all is = absurd is
  choice_before (Site atom groups first second ∷ slots) (unfilled n others) all is =
      let same = members_same (Site atom groups first second) (head (Site atom groups first second) slots all) in
      (omega (arith, is.0, ap length same), choice_before slots others (tail (Site atom groups first second) slots all) is.1)
  choice_before (Site atom groups first second ∷ slots) (filled k inside others) all is =
      let site = head (Site atom groups first second) slots all in
      let same = members_same (Site atom groups first second) site in
      let made = choice_before (slots_of query (member query (Site atom groups first second) k)) inside (slots_single (member query (Site atom groups first second) k)) is.2 in (
        is.0,
        omega (arith, is.1, ap length same),
        subst (λ (t : ℕ). IsChoiceByLabel query (slots_of query t) inside) (member_same (Site atom groups first second) k site) made,
        choice_before slots others (tail (Site atom groups first second) slots all) is.3,
      )

  choice_after : (slots : List Slot) (choice : Choice) → All IsSingle slots → IsChoiceByLabel query slots choice → IsChoice query slots choice
  choice_after [] done all is = tt
  choice_after [] (repeated n others) all is = absurd is
  choice_after [] (unfilled n others) all is = absurd is
  choice_after [] (filled k inside others) all is = absurd is
  choice_after (Link atom most from to ∷ slots) done all is = absurd is
  choice_after (Link atom most from to ∷ slots) (repeated n others) all is = (is.0, is.1, choice_after slots others (tail (Link atom most from to) slots all) is.2)
  choice_after (Link atom most from to ∷ slots) (unfilled n others) all is = absurd is
  choice_after (Link atom most from to ∷ slots) (filled k inside others) all is = absurd is
  choice_after (Site atom groups first second ∷ slots) done all is = absurd is
  choice_after (Site atom groups first second ∷ slots) (repeated n others) all is = absurd is
  choice_after (Site atom groups first second ∷ slots) (unfilled n others) all is =
      let same = members_same (Site atom groups first second) (head (Site atom groups first second) slots all) in
      (omega (arith, is.0, ap length same), choice_after slots others (tail (Site atom groups first second) slots all) is.1)
  choice_after (Site atom groups first second ∷ slots) (filled k inside others) all is =
      let site = head (Site atom groups first second) slots all in
      let same = members_same (Site atom groups first second) site in
      let made = choice_after (slots_of query (member_by_label query (Site atom groups first second) k)) inside
      (slots_single (member_by_label query (Site atom groups first second) k)) is.2 in (
        is.0,
        omega (arith, is.1, ap length same),
        subst (λ (t : ℕ). IsChoice query (slots_of query t) inside) (sym (member_same (Site atom groups first second) k site)) made,
        choice_after slots others (tail (Site atom groups first second) slots all) is.3,
      )

  -- ---- the sites that stand

  standing_same : (slots : List Slot) (choice : Choice) → All IsSingle slots → standing_sites query slots choice ≡ standing_by_label query slots choice
  standing_same slots done all = refl
  standing_same [] (repeated n others) all = refl
  standing_same [] (unfilled n others) all = refl
  standing_same [] (filled k inside others) all = refl
  standing_same (slot ∷ slots) (repeated n others) all = standing_same slots others (tail slot slots all)
  standing_same (slot ∷ slots) (unfilled n others) all = ap (λ (xs : List Standing). record { site = slot; number = n } ∷ xs) (standing_same slots others (tail slot slots all))
  standing_same (slot ∷ slots) (filled k inside others) all =
      let inner : standing_sites query (slots_of query (member query slot k)) inside ≡ standing_by_label query (slots_of query (member_by_label query slot k)) inside =
      standing_same (slots_of query (member query slot k)) inside (slots_single (member query slot k))
      ∙ ap (λ (t : ℕ). standing_by_label query (slots_of query t) inside) (member_same slot k (head slot slots all)) in
      let outer = standing_same slots others (tail slot slots all) in
      rw (inner, outer) refl

  -- ---- counts

  sites_same : (g : ℕ) (slots : List Slot) (choice : Choice) → All IsSingle slots → sites_of (standing_sites query slots choice) g ≡ sites_by_label (standing_sites query slots choice) g
  sites_same g slots done all = refl
  sites_same g [] (repeated n others) all = refl
  sites_same g [] (unfilled n others) all = refl
  sites_same g [] (filled k inside others) all = refl
  sites_same g (slot ∷ slots) (repeated n others) all = sites_same g slots others (tail slot slots all)
  sites_same g (slot ∷ slots) (unfilled n others) all =
      let one : Standing = record { site = slot; number = n } in
      omega (
        arith,
        sum_by-cons (λ (s : Standing). one_if (bears_label s.site g)) (record { site = slot; number = n }) (standing_sites query slots others),
        sum_by-cons (λ (s : Standing). one_if (bears_by_label s.site g)) (record { site = slot; number = n }) (standing_sites query slots others),
        ap one_if (bears_same slot g (head slot slots all)),
        sites_same g slots others (tail slot slots all),
      )
  sites_same g (slot ∷ slots) (filled k inside others) all =
      omega (
        arith,
        sum_by-cons (λ (s : Standing). one_if (bears_label s.site g)) (record { site = slot; number = k })
            (standing_sites query (slots_of query (member query slot k)) inside ++ standing_sites query slots others),
        sum_by-cons (λ (s : Standing). one_if (bears_by_label s.site g)) (record { site = slot; number = k })
            (standing_sites query (slots_of query (member query slot k)) inside ++ standing_sites query slots others),
        sum_by-append (λ (s : Standing). one_if (bears_label s.site g)) (standing_sites query (slots_of query (member query slot k)) inside) (standing_sites query slots others),
        sum_by-append (λ (s : Standing). one_if (bears_by_label s.site g)) (standing_sites query (slots_of query (member query slot k)) inside) (standing_sites query slots others),
        ap one_if (bears_same slot g (head slot slots all)),
        sites_same g (slots_of query (member query slot k)) inside (slots_single (member query slot k)),
        sites_same g slots others (tail slot slots all),
      )

  filled_same : (g : ℕ) → 1 ≤ g → (slots : List Slot) (choice : Choice) → All IsSingle slots → IsChoice query slots choice
      → filled_of query (standing_sites query slots choice) g ≡ filled_by_label query (standing_sites query slots choice) g
  filled_same g least [] done all is = refl
  filled_same g least [] (repeated n others) all is = refl
  filled_same g least [] (unfilled n others) all is = refl
  filled_same g least [] (filled k inside others) all is = refl
  filled_same g least (Link atom most from to ∷ slots) done all is = absurd is
  filled_same g least (Link atom most from to ∷ slots) (repeated n others) all is = filled_same g least slots others (tail (Link atom most from to) slots all) is.2
  filled_same g least (Link atom most from to ∷ slots) (unfilled n others) all is = absurd is
  filled_same g least (Link atom most from to ∷ slots) (filled k inside others) all is = absurd is
  filled_same g least (Site atom groups first second ∷ slots) done all is = absurd is
  filled_same g least (Site atom groups first second ∷ slots) (repeated n others) all is = absurd is
  filled_same g least (Site atom groups first second ∷ slots) (unfilled n others) all is =
      omega (
        arith,
        sum_by-cons (λ (s : Standing). one_if (holds_member_of query s.site s.number g)) (record { site = Site atom groups first second; number = n }) (standing_sites query slots others),
        sum_by-cons (λ (s : Standing). one_if (bears_by_label s.site g && is_filled_by_label query s.site s.number))
            (record { site = Site atom groups first second; number = n }) (standing_sites query slots others),
        ap one_if (holds_same atom groups first second (head (Site atom groups first second) slots all) n g (omega (arith, is.0)) least),
        filled_same g least slots others (tail (Site atom groups first second) slots all) is.1,
      )
  filled_same g least (Site atom groups first second ∷ slots) (filled k inside others) all is =
      let t : ℕ = member query (Site atom groups first second) k in
      omega (
        arith,
        sum_by-cons (λ (s : Standing). one_if (holds_member_of query s.site s.number g)) (record { site = Site atom groups first second; number = k })
            (standing_sites query (slots_of query (member query (Site atom groups first second) k)) inside ++ standing_sites query slots others),
        sum_by-cons (λ (s : Standing). one_if (bears_by_label s.site g && is_filled_by_label query s.site s.number)) (record { site = Site atom groups first second; number = k })
            (standing_sites query (slots_of query (member query (Site atom groups first second) k)) inside ++ standing_sites query slots others),
        sum_by-append (λ (s : Standing). one_if (holds_member_of query s.site s.number g))
            (standing_sites query (slots_of query (member query (Site atom groups first second) k)) inside) (standing_sites query slots others),
        sum_by-append (λ (s : Standing). one_if (bears_by_label s.site g && is_filled_by_label query s.site s.number))
            (standing_sites query (slots_of query (member query (Site atom groups first second) k)) inside) (standing_sites query slots others),
        ap one_if (holds_same atom groups first second (head (Site atom groups first second) slots all) k g is.0 least),
        filled_same g least (slots_of query (member query (Site atom groups first second) k)) inside (slots_single (member query (Site atom groups first second) k)) is.2,
        filled_same g least slots others (tail (Site atom groups first second) slots all) is.3,
      )

  -- ---- expansions

  pieces_same : (slots : List Slot) (choice : Choice) → All IsSingle slots → pieces_of query slots choice ≡ pieces_by_label query slots choice
  unfolding pieces_of pieces_by_label
  pieces_same [] done all = refl
  pieces_same [] (repeated n others) all = refl
  pieces_same [] (unfilled n others) all = refl
  pieces_same [] (filled k inside others) all = refl
  pieces_same (Link atom most from to ∷ slots) done all = refl
  pieces_same (Link atom most from to ∷ slots) (repeated n others) all = ap (λ (ps : List Piece). Copies n ∷ ps) (pieces_same slots others (tail (Link atom most from to) slots all))
  pieces_same (Link atom most from to ∷ slots) (unfilled n others) all = refl
  pieces_same (Link atom most from to ∷ slots) (filled k inside others) all = refl
  pieces_same (Site atom groups first second ∷ slots) done all = refl
  pieces_same (Site atom groups first second ∷ slots) (repeated n others) all = ap (λ (ps : List Piece). Copies n ∷ ps) (pieces_same slots others (tail (Site atom groups first second) slots all))
  pieces_same (Site atom groups first second ∷ slots) (unfilled n others) all =
      let open_same : left_open query (Site atom groups first second) ≡ left_open_by_label query (Site atom groups first second) =
      rw (draws_same (Site atom groups first second) (head (Site atom groups first second) slots all)) refl in
      let behind = pieces_same slots others (tail (Site atom groups first second) slots all) in
      ap (λ (p : Piece). p ∷ pieces_of query slots others) open_same ∙ ap (λ (ps : List Piece). left_open_by_label query (Site atom groups first second) ∷ ps) behind
  pieces_same (Site atom groups first second ∷ slots) (filled k inside others) all =
      let site = head (Site atom groups first second) slots all in
      let inner : (t : ℕ) → pieces_of query (slots_of query t) inside ≡ pieces_by_label query (slots_of query t) inside = λ t. pieces_same (slots_of query t) inside (slots_single t) in
      let part : (t : ℕ) → Member (joined (template_of query t) (pieces_of query (slots_of query t) inside)) ≡ Member (joined (template_of query t) (pieces_by_label query (slots_of query t) inside)) =
      λ t. ap (λ (ps : List Piece). Member (joined (template_of query t) ps)) (inner t) in
      let whole = part (member query (Site atom groups first second) k)
      ∙ ap (λ (t : ℕ). Member (joined (template_of query t) (pieces_by_label query (slots_of query t) inside))) (member_same (Site atom groups first second) k site) in
      let behind = pieces_same slots others (tail (Site atom groups first second) slots all) in
      ap (λ (p : Piece). p ∷ pieces_of query slots others) whole
      ∙ ap (λ (ps : List Piece). Member (joined (template_of query (member_by_label query (Site atom groups first second) k))
      (pieces_by_label query (slots_of query (member_by_label query (Site atom groups first second) k)) inside)) ∷ ps) behind

  expansion_same : (choice : Choice) → expansion query 0 choice ≡ expansion_by_label query choice
  unfolding expansion expansion_by_label
  expansion_same choice = ap (joined (template_of query 0)) (pieces_same (slots_of query 0) choice (slots_single 0))

  -- ---- all of it

  code_before : (t : ℕ) (code : List ℕ) → IsCode query t code → IsCodeByLabel query t code
  code_before t code is = record { choice = is.choice; made = choice_before (slots_of query t) is.choice (slots_single t) is.made; spelt = is.spelt }

  code_after : (t : ℕ) (code : List ℕ) → IsCodeByLabel query t code → IsCode query t code
  code_after t code is = record { choice = is.choice; made = choice_after (slots_of query t) is.choice (slots_single t) is.made; spelt = is.spelt }

  -- the counts of both texts, over the sites of the one and of the other
  sites_both : (choice : Choice) (g : ℕ) → sites_of (standing_sites query (slots_of query 0) choice) g ≡ sites_by_label (standing_by_label query (slots_of query 0) choice) g
  sites_both choice g =
      sites_same g (slots_of query 0) choice (slots_single 0)
      ∙ ap (λ (standing : List Standing). sites_by_label standing g) (standing_same (slots_of query 0) choice (slots_single 0))

  filled_both : (choice : Choice) → IsChoice query (slots_of query 0) choice → (g : ℕ) → 1 ≤ g
      → filled_of query (standing_sites query (slots_of query 0) choice) g ≡ filled_by_label query (standing_by_label query (slots_of query 0) choice) g
  filled_both choice made g least =
      filled_same g least (slots_of query 0) choice (slots_single 0) made
      ∙ ap (λ (standing : List Standing). filled_by_label query standing g) (standing_same (slots_of query 0) choice (slots_single 0))

  valid_before : (code : List ℕ) → IsValid query code → IsValidByLabel query code
  valid_before code is = record {
    choice = is.choice;
    made = choice_before (slots_of query 0) is.choice (slots_single 0) is.made;
    spelt = is.spelt;
    logic = allowed_same query _ _ _ _ (λ g least. sites_both is.choice g) (λ g least. filled_both is.choice is.made g least) is.logic;
  }

  valid_after : (code : List ℕ) → IsValidByLabel query code → IsValid query code
  valid_after code is =
      let made = choice_after (slots_of query 0) is.choice (slots_single 0) is.made in
      record {
        choice = is.choice;
        made = made;
        spelt = is.spelt;
        logic = allowed_same query _ _ _ _ (λ g least. sym (sites_both is.choice g)) (λ g least. sym (filled_both is.choice made g least)) is.logic;
      }

  expansion_before : (code : List ℕ) (graph : GraphView) → IsExpansion query code graph → IsExpansionByLabel query code graph
  expansion_before code graph is =
      let same = expansion_same is.choice in
      record {
        choice = is.choice;
        made = choice_before (slots_of query 0) is.choice (slots_single 0) is.made;
        spelt = is.spelt;
        kept = is.kept;
        atoms = is.atoms ∙ ap (λ (f : Fragment). f.atoms) same;
        each = λ bond at. subst (λ (f : Fragment). Contains f.bonds (unmarked bond)) same (is.each bond at);
        all = λ bond at. is.all bond (subst (λ (f : Fragment). Contains f.bonds bond) (sym same) at);
      }

  expansion_after : (code : List ℕ) (graph : GraphView) → IsExpansionByLabel query code graph → IsExpansion query code graph
  expansion_after code graph is =
      let same = expansion_same is.choice in
      record {
        choice = is.choice;
        made = choice_after (slots_of query 0) is.choice (slots_single 0) is.made;
        spelt = is.spelt;
        kept = is.kept;
        atoms = is.atoms ∙ ap (λ (f : Fragment). f.atoms) (sym same);
        each = λ bond at. subst (λ (f : Fragment). Contains f.bonds (unmarked bond)) (sym same) (is.each bond at);
        all = λ bond at. is.all bond (subst (λ (f : Fragment). Contains f.bonds bond) same at);
      }

  occurrence_before : (mol : Molecule) (numbers : List ℕ) → IsOccurrence query mol numbers → IsOccurrenceByLabel query mol numbers
  occurrence_before mol numbers is = record {
    code = is.code;
    hit = is.hit;
    graph = is.graph;
    valid = valid_before is.code is.valid;
    expanded = expansion_before is.code is.graph is.expanded;
    hits = is.hits;
    whole = is.whole;
  }

  occurrence_after : (mol : Molecule) (numbers : List ℕ) → IsOccurrenceByLabel query mol numbers → IsOccurrence query mol numbers
  occurrence_after mol numbers is = record {
    code = is.code;
    hit = is.hit;
    graph = is.graph;
    valid = valid_after is.code is.valid;
    expanded = expansion_after is.code is.graph is.expanded;
    hits = is.hits;
    whole = is.whole;
  }

  key_before : (molecules : List (ℕ × Molecule)) (key : List ℕ) → IsKey (IsAmong molecules) query key → IsKeyByLabel (IsAmong molecules) query key
  key_before molecules key is = record {
    number = is.number;
    mol = is.mol;
    numbers = is.numbers;
    held = is.held;
    occurs = occurrence_before is.mol is.numbers is.occurs;
    whole = is.whole;
  }

  key_after : (molecules : List (ℕ × Molecule)) (key : List ℕ) → IsKeyByLabel (IsAmong molecules) query key → IsKey (IsAmong molecules) query key
  key_after molecules key is = record {
    number = is.number;
    mol = is.mol;
    numbers = is.numbers;
    held = is.held;
    occurs = occurrence_after is.mol is.numbers is.occurs;
    whole = is.whole;
  }

  as_before : IsAsBefore query
  as_before = record {
    codes = λ t code. (code_before t code, code_after t code);
    valid = λ code. (valid_before code, valid_after code);
    expansions = λ code graph. (expansion_before code graph, expansion_after code graph);
    keys = λ molecules key. (key_before molecules key, key_after molecules key);
  }

pub law : SingleLabelsAsBefore
law query fits single = as_before query fits single
