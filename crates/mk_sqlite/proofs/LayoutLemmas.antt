-- A schema that passes the test for one of ours is that one.
use Rattle.std.proofs.Common.{◌≡◌, ◌&&◌, ℕ, Bool, true, false, not, cond, eqb, List, [], ◌∷◌, Option, Some, None, refl, sym, ap, ap₂, ◌∙◌, bytes_eq}
use Rattle.std.proofs.lemmas.Bool.{and_parts, eqb-true, cases_Bool}
use Rattle.std.proofs.lemmas.Slice.Eq.{bytes_eq-Decides}
use Rattle.sqlite_value.specs.declared.value.Value.{Value}
use Rattle.sqlite_value.specs.declared.value.Value.TheVariants.{Null, Int, Real, Text as Words, Blob as Bytes}
use Rattle.sqlite_value.specs.declared.keys.Collation.{Collation}
use Rattle.sqlite_value.specs.declared.keys.Collation.TheVariants.{Binary, NoCase, RTrim}
use Rattle.sqlite_value.specs.declared.keys.Order.{Order}
use Rattle.sqlite_value.specs.Keys.{collation_code}
use Rattle.sqlite_sql.specs.Ops.{is_null}
use Rattle.sqlite_schema.specs.declared.schema.Kind.{Kind}
use Rattle.sqlite_schema.specs.declared.schema.Kind.TheVariants.{Integer, Real as Float, Text, Blob, Any}
use Rattle.sqlite_schema.specs.declared.schema.Column.{Column}
use Rattle.sqlite_schema.specs.declared.schema.Table.{Table}
use Rattle.sqlite_schema.specs.declared.schema.Index.{Index}
use Rattle.sqlite_schema.specs.declared.schema.Stamps.{Stamps}
use Rattle.sqlite_schema.specs.declared.schema.Schema.{Schema}
use Rattle.sqlite_schema.specs.Rules.{kind_code}
use Rattle.mk_sqlite.specs.Layout.{is_empty, all_same, same_bool, same_option, same_order, same_column, same_table, same_index, same_schema}
use Rattle.mk_sqlite.specs.Layout.{Stage, no_table, one_table, two_tables, three_tables, all_tables, schema_at, first_stage, stages, stage_of}

none_is : {X : Type 0} (xs ys : List X) → is_empty xs ≡ true → is_empty ys ≡ true → xs ≡ ys
none_is [] [] h k = refl
none_is [] (y ∷ ys) h k = cc
none_is (x ∷ xs) ys h k = cc

all_is : {X : Type 0} (same : X → X → Bool) → ((x y : X) → same x y ≡ true → x ≡ y) → (xs ys : List X) → all_same same xs ys ≡ true → xs ≡ ys
all_is same each [] [] h = refl
all_is same each [] (y ∷ ys) h = cc
all_is same each (x ∷ xs) [] h = cc
all_is same each (x ∷ xs) (y ∷ ys) h = let p = and_parts (same x y) (all_same same xs ys) h in ap₂ ◌∷◌ (each x y p.0) (all_is same each xs ys p.1)

bytes_is : (a b : List ℕ) → bytes_eq a b ≡ true → a ≡ b
bytes_is a b = (bytes_eq-Decides a b).0

bool_is : (a b : Bool) → same_bool a b ≡ true → a ≡ b
bool_is true true h = refl
bool_is true false h = cc
bool_is false true h = cc
bool_is false false h = refl

option_is : (a b : Option ℕ) → same_option a b ≡ true → a ≡ b
option_is None None h = refl
option_is None (Some n) h = cc
option_is (Some m) None h = cc
option_is (Some m) (Some n) h = ap Some (eqb-true m n h)

order_is : (a b : Order) → same_order a b ≡ true → a ≡ b
order_is a b h = let p = eqb-true a.digits b.digits h in λ i. record { digits = p i }

null_is : (a b : Value) → is_null a ≡ true → is_null b ≡ true → a ≡ b
null_is Null Null h k = refl
null_is Null b h k = cc
null_is a b h k = cc

kind_is : (a b : Kind) → eqb (kind_code a) (kind_code b) ≡ true → a ≡ b
kind_is Integer Integer h = refl
kind_is Float Float h = refl
kind_is Text Text h = refl
kind_is Blob Blob h = refl
kind_is Any Any h = refl
kind_is a b h = cc

collation_is : (a b : Collation) → eqb (collation_code a) (collation_code b) ≡ true → a ≡ b
collation_is Binary Binary h = refl
collation_is NoCase NoCase h = refl
collation_is RTrim RTrim h = refl
collation_is a b h = cc

column_is : (a b : Column) → same_column a b ≡ true → a ≡ b
column_is a b h =
    let name = and_parts _ _ h in
    let kind = and_parts _ _ name.1 in
    let strict = and_parts _ _ kind.1 in
    let required = and_parts _ _ strict.1 in
    let one = and_parts _ _ required.1 in
    let two = and_parts _ _ one.1 in
    let n = bytes_is a.name b.name name.0 in
    let k = kind_is a.kind b.kind kind.0 in
    let s = bool_is a.is_strict b.is_strict strict.0 in
    let r = bool_is a.not_null b.not_null required.0 in
    let d = null_is a.default b.default one.0 two.0 in
    let c = collation_is a.collation b.collation two.1 in
    λ i. record { name = n i; kind = k i; is_strict = s i; not_null = r i; default = d i; collation = c i }

table_is : (a b : Table) → same_table a b ≡ true → a ≡ b
table_is a b h =
    let p0 = and_parts _ _ h in
    let p1 = and_parts _ _ p0.1 in
    let p2 = and_parts _ _ p1.1 in
    let p3 = and_parts _ _ p2.1 in
    let p4 = and_parts _ _ p3.1 in
    let p5 = and_parts _ _ p4.1 in
    let p6 = and_parts _ _ p5.1 in
    let p7 = and_parts _ _ p6.1 in
    let p8 = and_parts _ _ p7.1 in
    let p9 = and_parts _ _ p8.1 in
    let p10 = and_parts _ _ p9.1 in
    let p11 = and_parts _ _ p10.1 in
    let p12 = and_parts _ _ p11.1 in
    let p13 = and_parts _ _ p12.1 in
    let p14 = and_parts _ _ p13.1 in
    let p15 = and_parts _ _ p14.1 in
    let name = bytes_is a.name b.name p0.0 in
    let tree = eqb-true a.tree b.tree p1.0 in
    let columns = all_is same_column column_is a.columns b.columns p2.0 in
    let key = option_is a.key b.key p3.0 in
    let primary = bytes_is a.primary b.primary p4.0 in
    let uniques = all_is bytes_eq bytes_is a.uniques b.uniques p5.0 in
    let orders = all_is same_order order_is a.orders b.orders p6.0 in
    let checks = none_is a.checks b.checks p7.0 p8.0 in
    let references = none_is a.references b.references p9.0 p10.0 in
    let computed = bytes_is a.computed b.computed p11.0 in
    let places = bytes_is a.stamps.places b.stamps.places p12.0 in
    let terms = none_is a.stamps.terms b.stamps.terms p13.0 p14.0 in
    let formats = all_is bytes_eq bytes_is a.stamps.formats b.stamps.formats p15.0 in
    let counted = bool_is a.is_counted b.is_counted p15.1 in
    λ i. record {
      name = name i;
      tree = tree i;
      columns = columns i;
      key = key i;
      primary = primary i;
      uniques = uniques i;
      orders = orders i;
      checks = checks i;
      references = references i;
      computed = computed i;
      stamps = record { places = places i; terms = terms i; formats = formats i };
      is_counted = counted i;
    }

index_is : (a b : Index) → same_index a b ≡ true → a ≡ b
index_is a b h =
    let p0 = and_parts _ _ h in
    let p1 = and_parts _ _ p0.1 in
    let p2 = and_parts _ _ p1.1 in
    let p3 = and_parts _ _ p2.1 in
    let p4 = and_parts _ _ p3.1 in
    let name = bytes_is a.name b.name p0.0 in
    let tree = eqb-true a.tree b.tree p1.0 in
    let table = eqb-true a.table b.table p2.0 in
    let columns = bytes_is a.columns b.columns p3.0 in
    let order = order_is a.order b.order p4.0 in
    let unique = bool_is a.is_unique b.is_unique p4.1 in
    λ i. record { name = name i; tree = tree i; table = table i; columns = columns i; order = order i; is_unique = unique i }

schema_is : (a b : Schema) → same_schema a b ≡ true → a ≡ b
schema_is a b h =
    let p0 = and_parts _ _ h in
    let p1 = and_parts _ _ p0.1 in
    let p2 = and_parts _ _ p1.1 in
    let tables = all_is same_table table_is a.tables b.tables p0.0 in
    let indexes = all_is same_index index_is a.indexes b.indexes p1.0 in
    let views = none_is a.views b.views p2.0 p2.1 in
    λ i. record { tables = tables i; indexes = indexes i; views = views i }

first_is : (all : List Stage) (schema : Schema) (stage : Stage) → first_stage schema all ≡ Some stage → schema ≡ schema_at stage
first_is [] schema stage h = cc
first_is (first ∷ more) schema stage h = go (same_schema schema (schema_at first)) refl h (first_is more schema stage)
  where
    go : (b : Bool) → same_schema schema (schema_at first) ≡ b → cond b (Some first) (first_stage schema more) ≡ Some stage → (first_stage schema more ≡ Some stage → schema ≡ schema_at stage) →
        schema ≡ schema_at stage
    go true is found later = let same : first ≡ stage = cc in schema_is _ _ is ∙ ap schema_at same
    go false is found later = later found

-- the schema at a stage is that of the stage
pub stage_is : (schema : Schema) (stage : Stage) → stage_of schema ≡ Some stage → schema ≡ schema_at stage
unfolding stage_of
stage_is = first_is stages

-- the schema of each stage is found
pub stage_again : (stage : Stage) → stage_of (schema_at stage) ≡ Some stage
unfolding stage_of
stage_again no_table = refl
stage_again one_table = refl
stage_again two_tables = refl
stage_again three_tables = refl
stage_again all_tables = refl
