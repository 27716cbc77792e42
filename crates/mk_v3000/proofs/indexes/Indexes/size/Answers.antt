use Rattle.std.proofs.Common.{◌≡◌, ◌++◌, ap, length, arith}
use Rattle.mk_v3000.specs.Indexes.{numbers_from}
use Rattle.mk_v3000.proofs.IndexLemmas.{size_is}
use Rattle.mk_v3000.proofs.indexes.Indexes.size.Goals as goal

pub overflow_add-result : goal.overflow_add-result
overflow_add-result c =
    let shown : length (numbers_from 1 c.self.inside.counted ++ c.self.inside.others.keys) ≡ length c.args.self.now = ap length c.self.view_is in
    let size : c.len.result ≡ length c.self.inside.others.keys = c.len.ensures.len in
    omega (arith, shown, size_is c.self.inside.counted c.self.inside.others.keys, c.requires, size)

pub returns : goal.returns
returns c =
    let shown : length (numbers_from 1 c.self.inside.counted ++ c.self.inside.others.keys) ≡ length c.args.self.now = ap length c.self.view_is in
    let size : c.len.result ≡ length c.self.inside.others.keys = c.len.ensures.len in
    omega (arith, shown, size_is c.self.inside.counted c.self.inside.others.keys, size)
