-- Each expansion of a query has an atom.
--     some_atom     the lemma
use Rattle.std.proofs.Common.{◌≡◌, ◌⊎◌, ◌≤◌, ◌<◌, ℕ, inl, inr, List, length, get_or, refl, sym, subst, arith}
use Rattle.std.specs.Prelude.{Contains}
use Rattle.std.proofs.lemmas.List.Elements.{All-contains, Contains-get_or}
use Rattle.mk_model.specs.declared.graph.GraphAtom.{GraphAtom}
use Rattle.mk_model.specs.declared.template.Slot.{Slot}
use Rattle.mk_model.specs.declared.template.Slot.TheVariants.{Link, Site}
use Rattle.mk_model.specs.Codes.{Choice, IsChoice}
use Rattle.mk_model.specs.Expansions.{IsExpansion, expansion, joined, pieces_of, template_of}
use Rattle.mk_model.specs.Graphs.{GraphView}
use Rattle.mk_model.specs.Pieces.{Piece, piece, room, width}
use Rattle.mk_model.specs.Pieces.Piece.{Copies, Member, Hydrogens, Nothing}
use Rattle.mk_model.specs.Queries.{QueryView, slots_of}
use Rattle.mk_model.specs.QueryFits.{AreNeighbours, IsBetweenNamed, QueryFits}
use Rattle.mk_model.specs.Templates.{TemplateView}
use Rattle.mk_pieces.specs.Kept.{IsSlotOf, IsTemplate}
use Rattle.mk_pieces.specs.Names.{Stand, stand}
use Rattle.mk_pieces.specs.Names.Stand.{Times}
use Rattle.mk_pieces.proofs.ChoiceFits.{kept_template}
use Rattle.mk_pieces.proofs.DrawnLawLemmas.{found_is}
use Rattle.mk_pieces.proofs.EndLemmas.{IsKnownStand, beside_site, known_stand}
use Rattle.mk_pieces.proofs.GraphLemmas.{root_small}
use Rattle.mk_pieces.proofs.JoinedLemmas.{length_atoms}
use Rattle.mk_pieces.proofs.NameLemmas.{becomes, piece_is}
use Rattle.mk_pieces.proofs.PieceLemmas.{FitsSlot}
use Rattle.mk_pieces.proofs.SpanLemmas.{room_of, room_within}
use Rattle.mk_pieces.proofs.TemplateLemmas.{joined_within}

-- a link stands at least once
link_wide : (atom most from to : ℕ) (p : Piece) → FitsSlot (Link atom most from to) p → 1 ≤ width p
link_wide atom most from to (Copies n) fit = fit.0
link_wide atom most from to (Member part) fit = absurd fit
link_wide atom most from to (Hydrogens n) fit = absurd fit
link_wide atom most from to Nothing fit = absurd fit

-- copies that stand at a slot are at least one
copies_some : (slot : Slot) (n : ℕ) → FitsSlot slot (Copies n) → 1 ≤ n
copies_some (Link atom most from to) n fit = fit.0
copies_some (Site atom groups first second) n fit = absurd fit

-- a site of a template
pub record HasSite (template : TemplateView) : Type 0 where
  pub atom : ℕ
  pub groups : List ℕ
  pub first : ℕ
  pub second : ℕ
  pub held : Contains template.slots (Site atom groups first second)

module _ (query : QueryView) (fits : QueryFits query) (choice : Choice) (made : IsChoice query (slots_of query 0) choice) where
  abbrev root : TemplateView
  root = template_of query 0

  abbrev pieces : List Piece
  pieces = pieces_of query (slots_of query 0) choice

  there : 0 < length query.templates
  there = (root_small query fits).there

  kept : IsTemplate (template_of query 0)
  kept = kept_template query fits 0 there

  -- an atom becomes one at least, or there is a site
  wide_or_site : (x : ℕ) → IsKnownStand query 0 choice x → (1 ≤ width (becomes query (stand query 0 choice x))) ⊎ HasSite (template_of query 0)
  wide_or_site x (inl once) = inl (rw once (omega arith))
  wide_or_site x (inr (k, below, taken, fit)) =
      by_slot (get_or (template_of query 0).slots k (Link 0 0 0 0)) (Contains-get_or (template_of query 0).slots k (Link 0 0 0 0) below) fit
    where
      by_slot : (slot : Slot) → Contains (template_of query 0).slots slot → FitsSlot slot (becomes query (stand query 0 choice x))
          → (1 ≤ width (becomes query (stand query 0 choice x))) ⊎ HasSite (template_of query 0)
      by_slot (Link atom most from to) at fit' = inl (link_wide atom most from to (becomes query (stand query 0 choice x)) fit')
      by_slot (Site atom groups first second) at fit' = inr (record { atom = atom; groups = groups; first = first; second = second; held = at })

  -- copies are one at least
  copies_wide : (x n : ℕ) → IsKnownStand query 0 choice x → stand query 0 choice x ≡ Times n → 1 ≤ width (becomes query (stand query 0 choice x))
  copies_wide x n (inl once) is = rw once (omega arith)
  copies_wide x n (inr (k, below, taken, fit)) is =
      rw is (copies_some (get_or (template_of query 0).slots k (Link 0 0 0 0)) n (subst (λ (s : Stand). FitsSlot (get_or (template_of query 0).slots k (Link 0 0 0 0)) (becomes query s)) is fit))

  -- an atom of the root that becomes one at least
  pub record HasWide : Type 0 where
    pub x : ℕ
    pub least : 1 ≤ x
    pub most : x ≤ length (template_of query 0).atoms
    pub wide : 1 ≤ width (becomes query (stand query 0 choice x))

  -- the neighbour of a site does
  beside : HasSite (template_of query 0) → HasWide
  beside site =
      let of = All-contains (IsSlotOf (template_of query 0)) (template_of query 0).slots (Site site.atom site.groups site.first site.second) kept.slots site.held in
      let between : IsBetweenNamed (template_of query 0) site.atom site.first site.second = of.1 in
      let neighbours : AreNeighbours (template_of query 0) site.atom site.first = (between.neighbours site.first).1 (inl refl) in
      let copies = beside_site query fits 0 there choice made site.atom site.groups site.first site.second site.first site.held neighbours in
      let some : 1 ≤ site.first = omega (arith, between.some) in
      record {
        x = site.first;
        least = some;
        most = joined_within (template_of query 0) kept site.atom site.first neighbours;
        wide = copies_wide site.first copies.0 (known_stand query fits 0 there choice made site.first) copies.1;
      }

  has_wide : 1 ≤ length (template_of query 0).atoms → HasWide
  has_wide some =
      elim (wide_or_site 1 (known_stand query fits 0 there choice made 1)) [
        | inl wide ↦ record { x = 1; least = omega arith; most = some; wide = wide }
        | inr site ↦ beside site
      ]

  root_some : 1 ≤ length (template_of query 0).atoms
  root_some = subst (λ (t : TemplateView). 1 ≤ length t.atoms) (sym (found_is query 0 fits.small_root.root fits.small_root.at)) fits.small_root.some

  -- so there is an atom
  room_some : 1 ≤ room (template_of query 0) (pieces_of query (slots_of query 0) choice) (length (template_of query 0).atoms)
  room_some =
      let w = has_wide root_some in
      let wide : 1 ≤ width (piece (template_of query 0) (pieces_of query (slots_of query 0) choice) w.x) = rw (piece_is query 0 choice made w.x) w.wide in
      let own = room_of (template_of query 0) (pieces_of query (slots_of query 0) choice) w.x w.least in
      let within = room_within (template_of query 0) (pieces_of query (slots_of query 0) choice) w.x (length (template_of query 0).atoms) w.most in
      omega (arith, wide, own, within)

  atoms_some : 1 ≤ length (expansion query 0 choice).atoms
  unfolding expansion joined
  atoms_some = omega (arith, room_some, length_atoms (template_of query 0) (pieces_of query (slots_of query 0) choice) (length (template_of query 0).atoms))

-- each expansion has an atom
pub some_atom : (query : QueryView) (code : List ℕ) (graph : GraphView) → QueryFits query → IsExpansion query code graph → 1 ≤ length graph.atoms
some_atom query code graph fits is = subst (λ (atoms : List GraphAtom). 1 ≤ length atoms) (sym is.atoms) (atoms_some query fits is.choice is.made)
