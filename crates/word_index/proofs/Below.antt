-- The order of texts by their bytes.
use Rattle.std.proofs.Common.{◌≡◌, ℕ, List, sym, ap, ◌∙◌}
use Rattle.std.specs.Ordering.{nat_cmp, ordering_reverse, is_eq}
use Rattle.std.specs.declared.cmp.Ordering.{Ordering}
use Rattle.std.specs.declared.cmp.Ordering.TheVariants.{Less, Equal, Greater}
use Rattle.std.specs.Cmp.{IsTotalOrder}
use Rattle.std.specs.Cmp.Lexicographic.{slice_cmp, bytes_decides, texts_ties}
use Rattle.std.proofs.lemmas.Cmp.{nat_list_cmp_total}
use Rattle.word_index.specs.Index.{IsBelow}

back : (o : Ordering) → Greater ≡ ordering_reverse o → o ≡ Less
back Less h = cc
back Equal h = cc
back Greater h = cc

pub below_back : (x y : List ℕ) → slice_cmp nat_cmp x y ≡ Greater → IsBelow y x
below_back x y h = back (slice_cmp nat_cmp y x) (sym h ∙ nat_list_cmp_total.antisymm x y)

pub same_texts : (x y : List ℕ) → slice_cmp nat_cmp x y ≡ Equal → x ≡ y
same_texts x y h = (bytes_decides x y).0 (texts_ties x y ∙ ap is_eq h)

pub below_trans : (x y z : List ℕ) → IsBelow x y → IsBelow y z → IsBelow x z
below_trans = nat_list_cmp_total.trans
