-- Sites whose members don't have as many points as the site has neighbours.
--     told_more         one group more of which it is told
--     points_more       one member more that has so many points
--     groups_told, fits_told     what is told of the groups of a site, and of a slot, is so
--     misfit_found, all_fit     a table with a misfit and its lowest atom; a table without one
use Rattle.std.proofs.Common.{◌≡◌, ℕ, ◌+◌, ◌-◌, ◌<◌, ◌≤◌, Bool, true, false, cond, List, [], ◌∷◌, ◌++◌, Some, refl, sym, subst, ⊎_elim, ◌∙◌, arith, length, get_or, take, All}
use Rattle.std.specs.Prelude.{◌==◌, ◌↔◌, Contains, IsTrue, slice_get, slice_index_or}
use Rattle.std.proofs.lemmas.Bool.{cases_lt, true≢false}
use Rattle.std.proofs.lemmas.List.{get_or_append_left, get_or_push, take_more}
use Rattle.std.proofs.lemmas.List.Elements.{Contains-push_cases}
use Rattle.std.proofs.lemmas.Option.{slice_get_within, get_or_from_slice_get}
use Rattle.mk_text.specs.Items.{IsLeastFailing}
use Rattle.mk_model.specs.declared.template.Slot.{Slot}
use Rattle.mk_model.specs.declared.template.Slot.TheVariants.{Link, Site}
use Rattle.mk_model.specs.Labels.{joint_members}
use Rattle.mk_model.specs.Queries.{QueryView, members_of}
use Rattle.mk_model.specs.QueryFits.{FitsPoints, HasRisingSlots}
use Rattle.mk_model.specs.Templates.{TemplateView, slot_atom}
use Rattle.mk_model.proofs.ForCallers.{all_at, all_pass, at_place, is_joint, member_of_label, passes_all}
use Rattle.mk_query.specs.CompileFaults.{FitsAt, FitsTable}
use Rattle.mk_query.specs.PointFits.{AllHavePoints, AreTold, FindsUnfit, IsUnfit, all_told, told_fit}
use Rattle.mk_query.specs.Recursion.{NamesGroups}

-- ---- one group more

-- what is told of the first g groups
abbrev pub AreToldSoFar : QueryView → ℕ → ℕ → List Bool → Type 0
AreToldSoFar query n m list = (g : ℕ) → g < m → IsTrue (slice_index_or list g false) ↔ AllHavePoints query.templates n (members_of query (g + 1))

pub told_more : (query : QueryView) (n g : ℕ) (list : List Bool) (x : Bool) → length list ≡ g → IsTrue x ↔ AllHavePoints query.templates n (members_of query (g + 1))
    → AreToldSoFar query n g list → AreToldSoFar query n (g + 1) (list ++ x ∷ [])
told_more query n g list x size here before h below =
    ⊎_elim
    (λ earlier. let same : get_or (list ++ x ∷ []) h false ≡ get_or list h false = get_or_append_left list (x ∷ []) false h (omega (arith, earlier, size)) in rw same (before h earlier))
    (λ last.
    let at : h ≡ g = omega (arith, below, last) in
    let same : get_or (list ++ x ∷ []) h false ≡ x = get_or_push list x false h (omega (arith, at, size)) in
    rw (same, at) here)
    (cases_lt h g)

-- the members of one place more
pub points_more : (templates : List TemplateView) (n : ℕ) (members : List ℕ) (i : ℕ) (template : TemplateView) → i < length members → slice_get templates (get_or members i 0) ≡ Some template
    → length template.points ≡ n → AllHavePoints templates n (take i members) → AllHavePoints templates n (take (i + 1) members)
points_more templates n members i template below at has before u held =
    ⊎_elim
    (λ earlier. before u earlier)
    (λ here other other_at. let same : template ≡ other = cc in subst (λ (t : TemplateView). length t.points ≡ n) same has)
    (Contains-push_cases (take i members) (get_or members i 0) u (subst (λ (l : List ℕ). Contains l u) (take_more members i 0 below) held))

-- ---- the groups of a site

module _ (query : QueryView) (n : ℕ) (list : List Bool) (told : AreTold query n list) where
  -- of a group from 1 on
  told_of : (g : ℕ) → (1 ≤ g) × (g ≤ 32) → IsTrue (slice_index_or list (g - 1) false) ↔ AllHavePoints query.templates n (members_of query g)
  told_of g known = (let place : g - 1 + 1 ≡ g = omega (arith, known.0) in rw place at (told.each (g - 1) (omega (arith, known))))

  -- of each of some groups it is told that its members have so many points exactly where all their members have
  pub groups_told : (groups : List ℕ) → All (λ g. (1 ≤ g) × (g ≤ 32)) groups → all_told list groups ≡ true
      ↔ ((u : ℕ) (template : TemplateView) → Contains (joint_members query groups) u → slice_get query.templates u ≡ Some template → length template.points ≡ n)
  groups_told groups known = (there, back)
    where
      known_at : (k g : ℕ) → slice_get groups k ≡ Some g → (1 ≤ g) × (g ≤ 32)
      known_at k g at = all_at (λ (h : ℕ). (1 ≤ h) × (h ≤ 32)) groups k g known at

      there : all_told list groups ≡ true → (u : ℕ) (template : TemplateView) → Contains (joint_members query groups) u → slice_get query.templates u ≡ Some template → length template.points ≡ n
      there all u template at found =
          let label = member_of_label query groups u at in
          let here : slice_index_or list (label.label - 1) false ≡ true = all_pass (λ g. slice_index_or list (g - 1) false) groups label.place label.label all label.at in
          (told_of label.label (known_at label.place label.label label.at)).0 here u label.has template found

      back : ((u : ℕ) (template : TemplateView) → Contains (joint_members query groups) u → slice_get query.templates u ≡ Some template → length template.points ≡ n) → all_told list groups ≡ true
      back fits =
          passes_all (λ g. slice_index_or list (g - 1) false) groups
          (λ k g at. (told_of g (known_at k g at)).1
          (λ u member template found. fits u template (is_joint query groups u k g (slice_get_within query.templates u template found) at member) found))

-- ---- one slot

module _ (query : QueryView) (one two : List Bool) (first : AreTold query 1 one) (second : AreTold query 2 two) where
  -- a member of a site's group has as many points as the site has neighbours, by what is told of the group
  pub fits_told : (slot : Slot) → NamesGroups slot → told_fit one two slot ≡ true ↔ FitsPoints query slot
  fits_told (Link atom most from to) has = (λ _ u template at. absurd (let below = at.1 in omega arith), λ _. refl)
  fits_told (Site atom groups x y) has = by_second (y == 0)
    where
      by_second : (b : Bool) → cond b (all_told one groups) (all_told two groups) ≡ true
          ↔ ((u : ℕ) (template : TemplateView) → Contains (joint_members query groups) u → slice_get query.templates u ≡ Some template → length template.points ≡ cond b 1 2)
      by_second true = groups_told query 1 one first groups has
      by_second false = groups_told query 2 two second groups has

  -- ---- one table

  module _ (t : ℕ) (template : TemplateView) (at : slice_get query.templates t ≡ Some template) (has : All NamesGroups template.slots) where
    -- the label of a slot at its place
    label : (j : ℕ) (slot : Slot) → slice_get template.slots j ≡ Some slot → NamesGroups slot
    label j slot found = subst NamesGroups (get_or_from_slice_get template.slots j slot slot found) (has j slot (slice_get_within template.slots j slot found))

    -- the template of this number is this one
    same_template : (other : TemplateView) → slice_get query.templates t ≡ Some other → template ≡ other
    same_template other found = (let both : Some template ≡ Some other = sym at ∙ found in cc)

    -- every slot fits
    pub all_fit : FindsUnfit one two template.slots Rattle.std.proofs.Common.None → FitsTable query t
    all_fit fit x other slot found within atom =
        let same = same_template other found in
        let inside : Contains template.slots slot = rw same within in
        let slot_at : slice_get template.slots inside.0 ≡ Some slot = at_place template.slots inside.0 slot inside.1 ∙ rw inside.2 refl in
        (fits_told slot (label inside.0 slot slot_at)).0 (fit inside.0 slot slot_at)

    -- the first that doesn't is at the lowest atom
    pub misfit_found : HasRisingSlots template → (x : ℕ) → IsUnfit one two template.slots x → IsLeastFailing (FitsAt query t) x
    misfit_found rising x unfit = record { lower = lower; fails = fails }
      where
        place : get_or template.slots unfit.place unfit.slot ≡ unfit.slot
        place = get_or_from_slice_get template.slots unfit.place unfit.slot unfit.slot unfit.at

        fails : FitsAt query t x → ⊥
        fails fits =
            let fit = fits template unfit.slot at (unfit.place, slice_get_within template.slots unfit.place unfit.slot unfit.at, place) unfit.atom in
            absurd (true≢false (sym ((fits_told unfit.slot (label unfit.place unfit.slot unfit.at)).1 fit) ∙ unfit.unfit))

        lower : (y : ℕ) → y < x → FitsAt query t y
        lower y below other slot found within atom =
            let same = same_template other found in
            let inside : Contains template.slots slot = rw same within in
            let slot_at : slice_get template.slots inside.0 ≡ Some slot = at_place template.slots inside.0 slot inside.1 ∙ rw inside.2 refl in
            let earlier : inside.0 < unfit.place =
            ⊎_elim (λ is. is)
            (λ behind. absurd (behind_it inside.0 slot inside.1 inside.2 (omega (arith, behind)) atom below))
            (cases_lt inside.0 unfit.place) in
            (fits_told slot (label inside.0 slot slot_at)).0 (unfit.before inside.0 slot earlier slot_at)
          where
            -- a slot at or behind the first that doesn't fit is at no lower atom
            behind_it : (j : ℕ) (slot : Slot) → j < length template.slots → get_or template.slots j slot ≡ slot → unfit.place ≤ j → slot_atom slot ≡ y → y < x → ⊥
            behind_it j slot within is most atom below =
                ⊎_elim
                (λ later. let order = rising unfit.place j slot later within in
                let first : get_or template.slots unfit.place slot ≡ unfit.slot = get_or_from_slice_get template.slots unfit.place unfit.slot slot unfit.at in
                let falls : slot_atom unfit.slot < slot_atom slot = rw (first, is) at order in omega (arith, falls, unfit.atom, atom, below))
                (λ same.
                let equal : j ≡ unfit.place = omega (arith, most, same) in
                let one : slot ≡ unfit.slot = sym is ∙ rw equal (get_or_from_slice_get template.slots unfit.place unfit.slot slot unfit.at) in
                let atoms : slot_atom slot ≡ slot_atom unfit.slot = rw one refl in
                omega (arith, atoms, unfit.atom, atom, below))
                (cases_lt unfit.place j)
