use Rattle.std.proofs.Common.{◌≡◌, ℕ, List, take, refl, sym, ap, subst, ◌∙◌}
use Rattle.mk_text.specs.Rising.{IsLeast}
use Rattle.mk_text.proofs.ForCallers.{below_through, not_below_itself}
use Rattle.mk_model.specs.Logic.{IsValid}
use Rattle.mk_model.specs.Nodes.{BeginsCode, SameFrom}
use Rattle.mk_model.proofs.ForCallers.{not_below_through}
use Rattle.mk_choice.specs.Frames.{from_of, numbers_of}
use Rattle.mk_choice.proofs.CodesLeftLemmas.{fewer_nodes}
use Rattle.mk_choice.proofs.FrontLemmas.{same_here, same_of, same_through}
use Rattle.mk_choice.proofs.TurnLemmas.{begins_itself, end_none, item_least, same_node}
use Rattle.mk_choice.proofs.frames.Frames.next_code.Goals as goal

pub nodes-init : goal.nodes-init
nodes-init c =
    let f = c.args.self.now in
    record { are = c.requires; same = same_here (IsValid c.args.query.now) (from_of f); up = not_below_itself (from_of f) }

-- ---- where nothing is left

pub returns-then-not-next_node-clause-none : goal.returns-then-not-next_node-clause-none
returns-then-not-next_node-clause-none c = λ _.
    end_none c.args.query.now (from_of c.args.self.now) (from_of c.nodes.self) c.nodes.invariant.same (c.if-not-next_node.ensures.none refl)

pub returns-then-not-next_node-clause-same : goal.returns-then-not-next_node-clause-same
returns-then-not-next_node-clause-same c = λ _.
    let query = c.args.query.now in
    same_through (IsValid query) (from_of c.args.self.now) (from_of c.nodes.self) (from_of c.next_node.new.self) c.nodes.invariant.same
    (same_of (BeginsCode query) (IsValid query) (begins_itself query) (from_of c.nodes.self) (from_of c.next_node.new.self) (c.if-not-next_node.ensures.same refl))

pub returns-then-not-next_node-clause-up : goal.returns-then-not-next_node-clause-up
returns-then-not-next_node-clause-up c = λ _.
    not_below_through (from_of c.next_node.new.self) (from_of c.nodes.self) (from_of c.args.self.now) (c.if-not-next_node.ensures.up refl) c.nodes.invariant.up

-- ---- where numbers are come to

pub returns-then-settle-clause-found : goal.returns-then-settle-clause-found
returns-then-settle-clause-found c = λ _.
    let query = c.args.query.now in
    let start = from_of c.args.self.now in
    let node = numbers_of c.next_node.new.self in
    let is : numbers_of c.settle.new.self ≡ node =
    ap (λ (n : ℕ). take n c.settle.new.self.numbers.items) c.if-settle.ensures.depth ∙ ap (take c.next_node.new.self.depth) c.if-settle.ensures.same in
    subst (λ (xs : List ℕ). IsLeast start (IsValid query) xs) (sym is)
    (item_least query start (from_of c.nodes.self) node c.nodes.invariant.same (c.if-not-next_node.ensures.found refl) (c.if-settle.ensures.valid refl))

pub nodes-smaller : goal.nodes-smaller
nodes-smaller c =
    let query = c.args.query.now in
    let least = c.if-not-next_node.ensures.found refl in
    fewer_nodes query (from_of c.nodes.self) (from_of c.settle.new.self) (numbers_of c.next_node.new.self) c.requires.stands.fits least.has least.from c.if-settle.ensures.on

pub nodes-preserved : goal.nodes-preserved
nodes-preserved c =
    let query = c.args.query.now in
    let start = from_of c.args.self.now in
    let now = from_of c.nodes.self in
    let node = numbers_of c.next_node.new.self in
    let behind = from_of c.settle.new.self in
    let least = c.if-not-next_node.ensures.found refl in
    let to_node : SameFrom (IsValid query) now node = same_node query now now node (same_here (IsValid query) now) least in
    record {
      are = c.if-settle.ensures.frames;
      same = same_through (IsValid query) start now behind c.nodes.invariant.same (same_through (IsValid query) now node behind to_node (c.if-settle.ensures.moved refl));
      up = not_below_through behind now start (λ below. least.from (below_through node behind now c.if-settle.ensures.on below)) c.nodes.invariant.up;
    }
