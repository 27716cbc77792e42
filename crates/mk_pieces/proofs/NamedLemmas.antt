-- Expansions are named by the way to their atoms.
--     placed             the atoms and bonds of what a template becomes stand where their names say
--     named_expansion    the law
use Rattle.std.proofs.Common.{◌≡◌, ◌∙◌, ℕ, zero, suc, ◌<◌, Bool, true, false, cond, List, [], ◌∷◌, length, get_or, map, sym, ap, subst, arith}
use Rattle.std.specs.Prelude.{Contains, ◌↔◌}
use Rattle.std.proofs.lemmas.List.{get_or-map, length-map}
use Rattle.std.proofs.lemmas.List.Elements.{Contains-get_or}
use Rattle.mk_model.specs.declared.graph.GraphBond.{GraphBond}
use Rattle.mk_model.specs.declared.template.QueryBond.{QueryBond}
use Rattle.mk_model.specs.declared.template.Slot.{Slot}
use Rattle.mk_model.specs.declared.template.Slot.TheVariants.{Link, Site}
use Rattle.mk_model.specs.Codes.{Choice, IsChoice}
use Rattle.mk_model.specs.Codes.Choice.{done, repeated, unfilled, filled}
use Rattle.mk_model.specs.Expansions.{IsExpansion, expansion, template_of, unmarked}
use Rattle.mk_model.specs.Graphs.{GraphView}
use Rattle.mk_model.specs.Labels.{draws_rest_hydrogens, member}
use Rattle.mk_model.specs.Queries.{QueryView, slots_of}
use Rattle.mk_model.specs.QueryFits.{QueryFits}
use Rattle.mk_model.specs.Templates.{neighbour_count}
use Rattle.mk_model.proofs.ForCallers.{place_within}
use Rattle.mk_pieces.specs.Laws.{ExpansionIsNamed}
use Rattle.mk_pieces.specs.Names.{Stand, stand, stands_of, unfilled_stand}
use Rattle.mk_pieces.specs.Names.Stand.{ByHydrogens, ByMember, Vacant}
use Rattle.mk_pieces.proofs.ChoiceFits.{AreKnownSlots, chosen_there, known_slots, slots_of_template}
use Rattle.mk_pieces.proofs.NameLemmas.{Placed, choice_within, filler, name_every, name_one, name_order, name_there, place_of}
use Rattle.mk_pieces.proofs.NamedAtomLemmas.{name_named}
use Rattle.mk_pieces.proofs.NamedBondLemmas.{name_joined}
use Rattle.mk_pieces.proofs.StandLemmas.{stand_is, stand_numbered}
use Rattle.mk_model.specs.Pieces.{taker}

-- ---- one template, where its members are placed

by_members : (query : QueryView) (fits : QueryFits query) (t : ℕ) (in_query : t < length query.templates) (choice : Choice) (made : IsChoice query (slots_of query t) choice)
    → ((x u : ℕ) (within : Choice) → stand query t choice x ≡ ByMember u within → Placed query u within) → Placed query t choice
by_members query fits t in_query choice made inner = record {
  in_query = in_query;
  made = made;
  there = name_there query t choice made inner;
  every = name_every query t choice made inner;
  one = name_one query t choice made inner;
  in_order = name_order query t choice made inner;
  named = name_named query fits t in_query choice made inner;
  are_joined = name_joined query fits t in_query choice made inner;
}

-- ---- all templates

-- what is so of one member is so of the same
as_member : (query : QueryView) (u v : ℕ) (within inside : Choice) → ByMember v inside ≡ ByMember u within → Placed query v inside → Placed query u within
as_member query u v within inside same placed = subst (λ (s : Stand). Placed query (filler s) (choice_within s)) same placed

-- nothing else is a member
no_member : (query : QueryView) (u : ℕ) (within : Choice) (slot : Slot) → unfilled_stand query slot ≡ ByMember u within → Placed query u within
no_member query u within slot is = by (draws_rest_hydrogens query slot) is
  where
    by : (b : Bool) → cond b (ByHydrogens (neighbour_count slot)) Vacant ≡ ByMember u within → Placed query u within
    by true e = absurd cc
    by false e = absurd cc

members_placed : (query : QueryView) (fits : QueryFits query) (slots : List Slot) (choice : Choice) → AreKnownSlots query slots → IsChoice query slots choice
    → (k u : ℕ) (within : Choice) → stand_numbered (stands_of query slots choice) k ≡ ByMember u within → Placed query u within
unfolding stands_of
members_placed query fits slots choice known is zero u within at = absurd cc
members_placed query fits [] done known is (suc k) u within at = absurd cc
members_placed query fits [] (repeated n others) known is (suc k) u within at = absurd is
members_placed query fits [] (unfilled n others) known is (suc k) u within at = absurd is
members_placed query fits [] (filled m inside others) known is (suc k) u within at = absurd is
members_placed query fits (Link atom most from to ∷ slots) done known is (suc k) u within at = absurd is
members_placed query fits (Link atom most from to ∷ slots) (repeated n others) known is (suc zero) u within at = absurd cc
members_placed query fits (Link atom most from to ∷ slots) (repeated n others) known is (suc (suc k)) u within at = members_placed query fits slots others known.1 is.2 (suc k) u within at
members_placed query fits (Link atom most from to ∷ slots) (unfilled n others) known is (suc k) u within at = absurd is
members_placed query fits (Link atom most from to ∷ slots) (filled m inside others) known is (suc k) u within at = absurd is
members_placed query fits (Site atom groups first second ∷ slots) done known is (suc k) u within at = absurd is
members_placed query fits (Site atom groups first second ∷ slots) (repeated n others) known is (suc k) u within at = absurd is
members_placed query fits (Site atom groups first second ∷ slots) (unfilled n others) known is (suc zero) u within at = no_member query u within (Site atom groups first second) at
members_placed query fits (Site atom groups first second ∷ slots) (unfilled n others) known is (suc (suc k)) u within at = members_placed query fits slots others known.1 is.1 (suc k) u within at
members_placed query fits (Site atom groups first second ∷ slots) (filled m inside others) known is (suc zero) u within at =
    let v = member query (Site atom groups first second) m in
    let there = chosen_there query (Site atom groups first second) m is.0 is.1 in
    let same = slots_of_template query v there.0 in
    let inner = members_placed query fits (slots_of query v) inside (rw same (known_slots query fits v there.0)) is.2 in
    as_member query u v within inside at
    (by_members query fits v there.0 inside is.2 (λ x w deeper e. inner (taker (template_of query v) x) w deeper (sym (stand_is query v inside x) ∙ e)))
members_placed query fits (Site atom groups first second ∷ slots) (filled m inside others) known is (suc (suc k)) u within at = members_placed query fits slots others known.1 is.3 (suc k) u within at

-- the atoms and bonds of what a template becomes stand where their names say
pub placed : (query : QueryView) (fits : QueryFits query) (t : ℕ) → t < length query.templates → (choice : Choice) → IsChoice query (slots_of query t) choice → Placed query t choice
placed query fits t in_query choice made =
    let same = slots_of_template query t in_query in
    let inner = members_placed query fits (slots_of query t) choice (rw same (known_slots query fits t in_query)) made in
    by_members query fits t in_query choice made (λ x u within e. inner (taker (template_of query t) x) u within (sym (stand_is query t choice x) ∙ e))

-- ---- the law

-- a bond without its marks is one of the graph exactly where it is one of what the root becomes
bonds_agree : (query : QueryView) (code : List ℕ) (graph : GraphView) (is : IsExpansion query code graph) (b : QueryBond) → Contains (map unmarked graph.bonds) b
    ↔ Contains (expansion query 0 is.choice).bonds b
bonds_agree query code graph is b = (forth, is.all b)
  where
    forth : Contains (map unmarked graph.bonds) b → Contains (expansion query 0 is.choice).bonds b
    forth held =
        let d : GraphBond = record { first = 0; second = 0; kind = 0; topology = 0; ring = false; aromatic = false } in
        let below : held.0 < length graph.bonds = omega (arith, held.1, length-map graph.bonds unmarked) in
        let there = is.each (get_or graph.bonds held.0 d) (Contains-get_or graph.bonds held.0 d below) in
        subst (Contains (expansion query 0 is.choice).bonds) (sym (get_or-map unmarked graph.bonds held.0 d b below) ∙ held.2) there

pub named_expansion : ExpansionIsNamed
named_expansion query code graph fits is =
    let at : 0 < length query.templates = place_within query.templates 0 fits.small_root.root fits.small_root.at in
    let here = placed query fits 0 at is.choice is.made in
    let size : length graph.atoms ≡ length (expansion query 0 is.choice).atoms = ap length is.atoms in
    record {
      place = λ name. place_of query 0 is.choice name;
      there = λ name named. (let inside = here.there name named in (inside.0, omega (arith, inside.1, size)));
      every = λ p least most. here.every p least (omega (arith, most, size));
      one = here.one;
      in_order = here.in_order;
      named = λ name named. (let found = here.named name named in (found.0, rw is.atoms found.1, found.2));
      joined = λ name other kind topology one two less.
          let agree = bonds_agree query code graph is (record { first = place_of query 0 is.choice name; second = place_of query 0 is.choice other; kind = kind; topology = topology }) in
          let there = here.are_joined name other kind topology one two less in
          (λ held. there.0 (agree.0 held), λ joined. agree.1 (there.1 joined));
    }
