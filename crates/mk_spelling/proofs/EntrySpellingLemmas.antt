-- Lines of pairs, of links and of orders: what is written so is that property.
use Rattle.std.proofs.Common.{◌≡◌, ℕ, ◌+◌, ◌*◌, ◌≤◌, List, ◌++◌, length, refl, arith, lit≤}
use Rattle.std.specs.Prelude.{pos, codes}
use Rattle.std.specs.List.{flat_map, AllByRecursion}
use Rattle.std.proofs.lemmas.List.{length-append}
use Rattle.std.proofs.lemmas.List.Elements.{recursion_from_All}
use Rattle.mk_props.specs.declared.property.Pair.{Pair}
use Rattle.mk_props.specs.declared.property.LinkEntry.{LinkEntry}
use Rattle.mk_props.specs.declared.property.SiteOrder.{SiteOrder}
use Rattle.mk_props.specs.Entries.{IsPairAt, ArePairs, IsPairLine, IsLinkAt, IsLinkLine, IsOrderLine}
use Rattle.mk_tables.specs.TableLines.{Line}
use Rattle.mk_spelling.specs.TableSpelling.{spaced, count_text, pair_text, pairs_line, link_text, links_line, order_line, FitsThree, PairFits, PairsFit, LinkFits, LinksFit, OrderFits}
use Rattle.mk_spelling.proofs.ThreeLemmas.{length-three, count_fits}
use Rattle.mk_spelling.proofs.StandingLemmas.{StandsBehind, first, alone, behind, within, text_at, field_at, length-spaced, spaced_at, entry_at}
use Rattle.mk_spelling.proofs.LineSpellingLemmas.{at_place, each_of}

-- ---- pairs

-- a pair is eight columns
length-pair : (pair : Pair) → PairFits pair → length (pair_text pair) ≡ 8
length-pair pair fits = omega (arith, length-append (spaced pair.atom) (spaced pair.value), length-spaced pair.atom fits.atom, length-spaced pair.value fits.value)

-- a pair that stands there
pair_at : {line : Line} {n : ℕ} (pair : Pair) (at : ℕ) → PairFits pair → StandsBehind line n (pair_text pair) → at ≡ n + 1 → IsPairAt line at pair
pair_at {line} {n} pair at fits stands from =
    record {
      atom = spaced_at pair.atom at fits.atom (within 0 stands (first (spaced pair.atom) (spaced pair.value))) (omega arith);
      value = spaced_at pair.value (at + 4) fits.value (within 4 stands (behind (spaced pair.atom) 4 (length-spaced pair.atom fits.atom) (alone (spaced pair.value)))) (omega arith);
    }

-- pairs behind their count
pairs_at : {line : Line} {n : ℕ} (most at : ℕ) (pairs : List Pair) → most ≤ 999 → PairsFit most pairs
    → StandsBehind line n (count_text pairs ++ flat_map pair_text pairs) → at ≡ n + 1 → ArePairs most line at pairs
pairs_at {line} {n} most at pairs few fits stands from =
    let count = count_text pairs in
    let entries : List ℕ = flat_map pair_text pairs in
    let counted : FitsThree (pos (length pairs)) = count_fits (length pairs) (omega (arith, fits.count.no_more)) in
    let size : length count ≡ 3 = length-three (pos (length pairs)) counted in
    let wide : AllByRecursion (λ (pair : Pair). length (pair_text pair) ≡ 8) pairs = each_of PairFits (λ (pair : Pair). length (pair_text pair) ≡ 8) length-pair pairs fits.each in
    record {
      some = fits.count.some;
      no_more = fits.count.no_more;
      count = field_at (pos (length pairs)) at (at + 2) counted (within 0 stands (first count entries)) (omega arith) (omega arith);
      each = λ i pair is.
          let entry : StandsBehind entries (8 * i) (pair_text pair) = entry_at 8 pair_text pairs wide i pair is in
          pair_at pair (at + 3 + 8 * i) (at_place PairFits pairs (recursion_from_All PairFits pairs fits.each) i pair is)
          (within (8 * i) (within 3 stands (behind count 3 size (alone entries))) entry) (omega arith);
    }

-- a line of pairs is one
pub pairs_are_read : (word : List ℕ) (most : ℕ) (pairs : List Pair) → length word ≡ 6 → most ≤ 999 → PairsFit most pairs
    → IsPairLine word most (pairs_line word pairs) pairs
unfolding pairs_line
pairs_are_read word most pairs six few fits =
    let rest : List ℕ = count_text pairs ++ flat_map pair_text pairs in
    record {
      begins = text_at 6 1 6 (first word rest) six (lit≤ tt) refl refl;
      entries = pairs_at most 7 pairs few fits (behind word 6 six (alone rest)) refl;
    }

-- ---- links

-- a link entry is sixteen columns
length-link : (link : LinkEntry) → LinkFits link → length (link_text link) ≡ 16
length-link link fits =
    let last = spaced link.from ++ spaced link.to in
    let later = spaced link.most ++ last in
    omega (
      arith,
      length-append (spaced link.atom) later,
      length-append (spaced link.most) last,
      length-append (spaced link.from) (spaced link.to),
      length-spaced link.atom fits.atom,
      length-spaced link.most fits.most,
      length-spaced link.from fits.from,
      length-spaced link.to fits.to,
    )

-- a link entry that stands there
link_at : {line : Line} {n : ℕ} (link : LinkEntry) (at : ℕ) → LinkFits link → StandsBehind line n (link_text link) → at ≡ n + 1 → IsLinkAt line at link
link_at {line} {n} link at fits stands from =
    let atom = spaced link.atom in
    let most = spaced link.most in
    let one = spaced link.from in
    let two = spaced link.to in
    let wide_atom : length atom ≡ 4 = length-spaced link.atom fits.atom in
    let wide_most : length most ≡ 4 = length-spaced link.most fits.most in
    let wide_one : length one ≡ 4 = length-spaced link.from fits.from in
    record {
      atom = spaced_at link.atom at fits.atom (within 0 stands (first atom (most ++ (one ++ two)))) (omega arith);
      most = spaced_at link.most (at + 4) fits.most (within 4 stands (behind atom 4 wide_atom (first most (one ++ two)))) (omega arith);
      from = spaced_at link.from (at + 8) fits.from (within 8 stands (behind atom 4 wide_atom (behind most 4 wide_most (first one two)))) (omega arith);
      to = spaced_at link.to (at + 12) fits.to (within 12 stands (behind atom 4 wide_atom (behind most 4 wide_most (behind one 4 wide_one (alone two))))) (omega arith);
    }

-- a line of links is one
pub links_are_read : (links : List LinkEntry) → LinksFit links → IsLinkLine (links_line links) links
unfolding links_line
links_are_read links fits =
    let count = count_text links in
    let entries : List ℕ = flat_map link_text links in
    let counted : FitsThree (pos (length links)) = count_fits (length links) (omega (arith, fits.count.no_more)) in
    let size : length count ≡ 3 = length-three (pos (length links)) counted in
    let wide : AllByRecursion (λ (link : LinkEntry). length (link_text link) ≡ 16) links = each_of LinkFits (λ (link : LinkEntry). length (link_text link) ≡ 16) length-link links fits.each in
    let stands : StandsBehind (codes "M  LIN" ++ (count ++ entries)) 9 entries = behind (codes "M  LIN") 6 refl (behind count 3 size (alone entries)) in
    record {
      begins = text_at 6 1 6 (first (codes "M  LIN") (count ++ entries)) refl (lit≤ tt) refl refl;
      entries = record {
        some = fits.count.some;
        no_more = fits.count.no_more;
        count = field_at (pos (length links)) 7 9 counted (behind (codes "M  LIN") 6 refl (first count entries)) refl refl;
        each = λ i link is.
            link_at link (10 + 16 * i) (at_place LinkFits links (recursion_from_All LinkFits links fits.each) i link is)
            (within (16 * i) stands (entry_at 16 link_text links wide i link is)) (omega arith);
      };
    }

-- ---- orders of neighbours

-- an order is one
pub order_is_read : (order : SiteOrder) → OrderFits order → IsOrderLine (order_line order) order
unfolding order_line
order_is_read order fits =
    let rest : List ℕ = count_text order.entries ++ flat_map pair_text order.entries in
    record {
      begins = text_at 6 1 6 (first (codes "M  AAL") (spaced order.atom ++ rest)) refl (lit≤ tt) refl refl;
      atom = spaced_at order.atom 7 fits.atom (behind (codes "M  AAL") 6 refl (first (spaced order.atom) rest)) refl;
      entries = pairs_at 2 11 order.entries (lit≤ tt) fits.entries (behind (codes "M  AAL") 6 refl (behind (spaced order.atom) 4 (length-spaced order.atom fits.atom) (alone rest))) refl;
    }
