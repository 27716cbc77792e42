use Rattle.std.proofs.Common.{◌∙◌, ap, sym, Some}
use Rattle.mk_library.specs.Records.{is_held, text_under}
use Rattle.mk_library.proofs.RecordsLemmas.{held_of, text_there}
use Rattle.mk_library.proofs.library.Library.text.Goals as goal

pub returns-in-Some : goal.returns-in-Some
returns-in-Some c = record {
  some = ap (λ v. text_under c.args.number v.records) (sym c.self.view_is) ∙ sym (text_there c.args.number c.self.inside.texts.rows) ∙ c.in-Some.ensures.some
      ∙ ap (λ text. Some text) (sym c.as_slice.ensures);
  none = tt;
}

pub returns-in-None : goal.returns-in-None
returns-in-None c = record {
  some = tt;
  none = ap (λ v. is_held c.args.number v.records) (sym c.self.view_is) ∙ sym (held_of c.args.number c.self.inside.texts.rows) ∙ c.in-None.ensures.none;
}
