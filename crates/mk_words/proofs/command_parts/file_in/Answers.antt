use Rattle.std.proofs.Common.{◌≡◌, ℕ, Bool, true, false, List, Option, Some, None, if◌then◌else◌, refl, sym, ap, ◌∙◌, subst}
use Rattle.std.specs.String.{string_bytes}
use Rattle.std.specs.Str.{is_utf8, IsUtf8}
use Rattle.std.proofs.lemmas.Str.{is_utf8-from_IsUtf8, IsUtf8-from_is_utf8, IsUtf8-had}
use Rattle.mk_words.proofs.command_parts.file_in.Goals as goal

some_if : (x w : List ℕ) → x ≡ w → is_utf8 w ≡ true → Some x ≡ (if is_utf8 w then Some w else None)
some_if x w is b = rw (b, is) refl

none_if : (w : List ℕ) → (IsUtf8 w → ⊥) → let o : Option (List ℕ) = None in o ≡ (if is_utf8 w then Some w else None)
none_if w none = by_test (is_utf8 w) refl
  where
    by_test : (b : Bool) → is_utf8 w ≡ b → let o : Option (List ℕ) = None in o ≡ (if b then Some w else None)
    by_test true e = absurd (none (IsUtf8-from_is_utf8 w e))
    by_test false e = refl

pub returns-in-Ok : goal.returns-in-Ok
returns-in-Ok c =
    let e : string_bytes c.in-Ok.text ≡ c.args.word.now = ap (λ v. v.items) c.in-Ok.ensures.ok ∙ c.in_ok-bytes.ensures.items in
    let u : IsUtf8 (string_bytes c.in-Ok.text) = IsUtf8-had (string_bytes c.in-Ok.text) c.in-Ok.text.ok in
    some_if c.of.result c.args.word.now (c.of.ensures ∙ e) (is_utf8-from_IsUtf8 c.args.word.now (subst IsUtf8 e u))

pub returns : goal.returns
returns c = none_if c.args.word.now (λ u. let h = c.in-Err.ensures.succeeds (subst IsUtf8 (sym c.in_ok-bytes.ensures.items) u) in cc)
