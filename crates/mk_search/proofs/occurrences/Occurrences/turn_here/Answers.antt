use Rattle.std.proofs.Common.{Option, None, Some, refl, subst, sym}
use Rattle.std.specs.Prelude.{IfSome}
use Rattle.mk_model.specs.declared.turn.Turn.TheVariants.{Item, Moved, End}
use Rattle.mk_model.specs.Queries.{QueryView}
use Rattle.mk_search.specs.declared.occurrences.Open.{Open}
use Rattle.mk_search.specs.Occurrences.{IsOpenOf}
use Rattle.mk_search.specs.Turns.{IsTurnHere, IsTurnOpen}
use Rattle.mk_search.proofs.occurrences.Occurrences.turn_here.Goals as goal

-- what is kept is of the code as before
of_still : (query : QueryView) (old new : Option Open) → IsTurnOpen old new End → IfSome old (IsOpenOf query) → IfSome new (IsOpenOf query)
of_still query None new turn of = subst (λ (m : Option Open). IfSome m (IsOpenOf query)) (sym turn) of
of_still query (Some old) new turn of = subst (λ (m : Option Open). IfSome m (IsOpenOf query)) (sym turn.0) of

item_here : (old new : Option Open) → IsTurnOpen old new Item → IsTurnHere old new Item
item_here None new turn = absurd turn
item_here (Some old) new turn = turn

moved_here : (old new : Option Open) → IsTurnOpen old new Moved → IsTurnHere old new Moved
moved_here None new turn = absurd turn
moved_here (Some old) new turn = turn

end_here : (old new : Option Open) → IsTurnOpen old new End → IsTurnHere old None End
end_here None new turn = refl
end_here (Some old) new turn = (refl, turn.1)

pub close-requires-clause-of : goal.close-requires-clause-of
close-requires-clause-of c = of_still c.args.self.now.query.now c.args.self.now.open c.turn_open.new.open c.in-End.ensures c.requires.of

pub returns-in-Item-clause-turn : goal.returns-in-Item-clause-turn
returns-in-Item-clause-turn c = item_here c.args.self.now.open c.turn_open.new.open c.in-Item.ensures

pub returns-in-Moved-clause-turn : goal.returns-in-Moved-clause-turn
returns-in-Moved-clause-turn c = moved_here c.args.self.now.open c.turn_open.new.open c.in-Moved.ensures
