-- Six draws, one after the other.
--     AreDrilled first x table state     before atom x, the table and the state are those that the draws so far left
use Rattle.std.proofs.Common.{◌≡◌, ℕ, zero, suc, ◌+◌, ◌*◌, ◌-◌, ◌<◌, ◌≤◌, length, arith, refl, sym, ap, ◌∙◌}
use Rattle.mk_tables.specs.declared.raw.RawTable.{RawTable}
use Rattle.mk_drill.specs.Draws.{benzene, draw_below, drilled_table, draws, next_state, state_behind, substituted, substituted_from}
use Rattle.mk_drill.proofs.DrilledTableLemmas.{substituted_few}

-- what the draws that are left make of the table and the state is what all make, and the table has few atoms
pub record AreDrilled (first x : ℕ) (table : RawTable) (state : ℕ) : Type 0 where
  pub table_is : substituted_from x (draws (7 - x) state) table ≡ drilled_table first
  pub state_is : state_behind (7 - x) state ≡ state_behind 6 first
  pub few : length table.atoms ≤ 6 + 2 * x

pub drilled_none : (first : ℕ) (table : RawTable) → table ≡ benzene → AreDrilled first 1 table first
unfolding drilled_table benzene
drilled_none first table is = record {
  table_is = ap (λ (t : RawTable). substituted_from 1 (draws 6 first) t) is;
  state_is = refl;
  few = omega (arith, ap (λ (t : RawTable). length t.atoms) is);
}

-- one draw more
pub drilled_more : (first x : ℕ) (table after : RawTable) (state draw next : ℕ) → x < 7 → AreDrilled first x table state
    → draw ≡ draw_below 8 state → next ≡ next_state state → after ≡ substituted x draw table
    → AreDrilled first (x + 1) after next
drilled_more first x table after state draw next below are drilled moved put =
    let left : 7 - x ≡ suc (7 - (x + 1)) = omega arith in
    let put_is : after ≡ substituted x (draw_below 8 state) table = put ∙ ap (λ d. substituted x d table) drilled in
    record {
      table_is =
          ap (λ (t : RawTable). substituted_from (x + 1) (draws (7 - (x + 1)) next) t) put_is
          ∙ ap (λ n. substituted_from (x + 1) (draws (7 - (x + 1)) n) (substituted x (draw_below 8 state) table)) moved
          ∙ sym (ap (λ k. substituted_from x (draws k state) table) left) ∙ are.table_is;
      state_is = ap (λ n. state_behind (7 - (x + 1)) n) moved ∙ sym (ap (λ k. state_behind k state) left) ∙ are.state_is;
      few = omega (arith, ap (λ (t : RawTable). length t.atoms) put_is, substituted_few x (draw_below 8 state) table, are.few);
    }

-- the state behind more draws
pub states_joined : (a b state : ℕ) → state_behind (a + b) state ≡ state_behind b (state_behind a state)
states_joined zero b state = ap (λ k. state_behind k state) (let none : 0 + b ≡ b = omega arith in none)
states_joined (suc a) b state = ap (λ k. state_behind k state) (let more : suc a + b ≡ suc (a + b) = omega arith in more) ∙ states_joined a b (next_state state)
