-- Words above the last one, read exactly.
use Rattle.std.proofs.Common.{◌≡◌, ◌⊎◌, inl, inr, ℕ, ◌+◌, ◌<◌, ◌≤◌, Bool, true, false, List, [], ◌∷◌, ◌++◌, length, drop, arith, refl, sym, ap, subst, ◌∙◌, ⊎_elim, append_assoc, append-nil, length-append, Option, Some, None, nat_cmp, is_lt, lt-ltb, le-leb}
use Rattle.std.specs.Prelude.{◌&&◌, ◌||◌, nat_lt, nat_le}
use Rattle.std.specs.List.{AllByRecursion, list_any}
use Rattle.std.specs.declared.cmp.Ordering.{Ordering}
use Rattle.std.specs.declared.cmp.Ordering.TheVariants.{Less, Equal, Greater}
use Rattle.std.specs.Cmp.Lexicographic.{slice_cmp}
use Rattle.std.proofs.lemmas.Bool.Decides.{nat_tests}
use Rattle.std.proofs.Math.Seq.{drop-append_seam}
use Rattle.exact_text.specs.Codes.{IsCode}
use Rattle.exact_text.proofs.CodeLaws.{same_code}
use Rattle.word_index.specs.Index.{IsBelow}
use Rattle.index_text.specs.Texts.{is_key_byte, IsAbove}
use Rattle.index_text.specs.Next.{IsLast, IsKey}
use Rattle.index_text.specs.Lines.{is_good_word, may_be_word, key_at, is_above, is_prefix}
use Rattle.index_text.proofs.Orders.{below_cons, below_first, below_rest, below_prefix, below_cancel, below_longer, below_or_prefix, prefix_rest}
use Rattle.index_text.proofs.Tokens.{token_code, both_true}

abbrev pub Keys : List ℕ → Type 0
Keys w = AllByRecursion (λ b. is_key_byte b ≡ true) w

pub keys_split : (xs ys : List ℕ) → Keys (xs ++ ys) → Keys xs × Keys ys
keys_split [] ys h = (tt, h)
keys_split (x ∷ xs) ys h = let r = keys_split xs ys h.1 in ((h.0, r.0), r.1)

pub keys_join : (xs ys : List ℕ) → Keys xs → Keys ys → Keys (xs ++ ys)
keys_join [] ys p q = q
keys_join (x ∷ xs) ys p q = (p.0, keys_join xs ys p.1 q)

pub lt_less : (o : Ordering) → is_lt o ≡ true → o ≡ Less
lt_less Less h = refl
lt_less Equal h = absurd (cc)
lt_less Greater h = absurd (cc)

pub above_is : (last : Option (List ℕ)) (w : List ℕ) → is_above last w ≡ true → IsAbove last w
above_is None w h = tt
above_is (Some l) w h = lt_less (slice_cmp nat_cmp l w) h

pub is_above-from : (last : Option (List ℕ)) (w : List ℕ) → IsAbove last w → is_above last w ≡ true
is_above-from None w h = refl
is_above-from (Some l) w h = ap is_lt h

pub low_key : (b : ℕ) → is_key_byte b ≡ true → (b ≤ 122) × (48 ≤ b)
low_key b h = grind (arith, nat_tests)

pub good_facts : (last : Option (List ℕ)) (w : List ℕ) → is_good_word last w ≡ true → ((0 < length w) × (length w ≤ 64)) × IsAbove last w
good_facts last w h =
    let a = both_true (nat_lt 0 (length w) && nat_le (length w) 64) (is_above last w) h in
    let b = both_true (nat_lt 0 (length w)) (nat_le (length w) 64) a.0 in
    let p = b.0 in
    let q = b.1 in
    (grind (arith, nat_tests), above_is last w a.1)

pub good_from : (last : Option (List ℕ)) (w : List ℕ) → 0 < length w → length w ≤ 64 → IsAbove last w → is_good_word last w ≡ true
good_from last w some short above = rw (lt-ltb 0 (length w) some, le-leb (length w) 64 short, is_above-from last w above) refl

-- a byte that leaves room above it
abbrev pub has_room : List ℕ → Bool
has_room r = list_any (λ b. nat_lt b 122) r

pub either_true : (a b : Bool) → (a || b) ≡ true → (a ≡ true) ⊎ (b ≡ true)
either_true true b h = inl refl
either_true false b h = inr h

pub or_right : (a b : Bool) → b ≡ true → (a || b) ≡ true
or_right true b h = refl
or_right false b h = h

pub or_left : (a b : Bool) → a ≡ true → (a || b) ≡ true
or_left true b h = refl
or_left false b h = absurd (cc)

-- bytes that make it greater with no more of them
pub record Raises (r : List ℕ) : Type 0 where
  pub more : List ℕ
  pub keys : Keys more
  pub short : length more ≤ length r
  pub above : IsBelow r more

raises : (r : List ℕ) → Keys r → has_room r ≡ true → Raises r
raises [] k h = absurd (cc)
raises (b ∷ r) k h =
    elim (either_true (nat_lt b 122) (has_room r) h) [
      | inl p ↦ let low : b < 122 = grind (arith, nat_tests) in record { more = 122 ∷ []; keys = (refl, tt); short = omega arith; above = below_first b 122 r [] low }
      | inr p ↦ let m = raises r k.1 p in record { more = b ∷ m.more; keys = (k.0, m.keys); short = omega (arith, m.short); above = below_rest b r m.more m.above }
    ]

-- bytes of words above these are more of them, or these have room
room_or_longer : (r m : List ℕ) → Keys m → IsBelow r m → (has_room r ≡ true) ⊎ (length r < length m)
room_or_longer [] [] k h = absurd (cc)
room_or_longer [] (e ∷ m) k h = inr (omega arith)
room_or_longer (d ∷ r) [] k h = absurd (cc)
room_or_longer (d ∷ r) (e ∷ m) k h = ⊎_elim
    (λ (lt : d < e). let top = (low_key e k.0).0 in let low : d < 122 = omega (arith, lt, top) in inl (or_left (nat_lt d 122) (has_room r) (lt-ltb d 122 low)))
    (λ (p : (d ≡ e) × IsBelow r m). ⊎_elim
    (λ (q : has_room r ≡ true). inl (or_right (nat_lt d 122) (has_room r) q))
    (λ (q : length r < length m). inr (omega (arith, q)))
    (room_or_longer r m k.1 p.1))
    (below_cons d e r m h)

Extends : Option (List ℕ) → List ℕ → Type 0
Extends last w = (more : List ℕ) × Keys more × (is_good_word last (w ++ more) ≡ true)

extends_alone : (last : Option (List ℕ)) (w : List ℕ) → 0 < length w → length w ≤ 64 → IsAbove last w → Extends last w
unfolding Extends
extends_alone last w some short above = ([], tt, subst (λ l. is_good_word last l ≡ true) (sym (append-nil w)) (good_from last w some short above))

below_some : (l w : List ℕ) → IsBelow l w → 0 < length w
below_some [] [] h = absurd (cc)
below_some (x ∷ l) [] h = absurd (cc)
below_some l (x ∷ w) h = omega arith

key_sound : (last : Option (List ℕ)) → IsLast last → (w : List ℕ) → Keys w → may_be_word last w ≡ true → Extends last w
unfolding Extends
key_sound None ok [] k h = (48 ∷ [], (refl, tt), refl)
key_sound None ok (x ∷ w) k h = let short : length (x ∷ w) ≤ 64 = grind (arith, nat_tests) in extends_alone None (x ∷ w) (omega arith) short tt
key_sound (Some l) ok w k h =
    let a = both_true (nat_le (length w) 64) _ h in
    let p = a.0 in
    let short : length w ≤ 64 = grind (arith, nat_tests) in
    elim (either_true (is_lt (slice_cmp nat_cmp l w)) _ a.1) [
      | inl q ↦ let less = lt_less (slice_cmp nat_cmp l w) q in extends_alone (Some l) w (below_some l w less) short less
      | inr q ↦
          let b = both_true (is_prefix w l) _ q in
          let f = prefix_rest w l b.0 in
          let r = f.0 in
          let keys = (keys_split w r (subst Keys f.1 ok.bytes)).1 in
          let long : length l ≡ length w + length r = ap length f.1 ∙ length-append w r in
          elim (either_true (nat_lt (length l) 64) _ b.1) [
            | inl t ↦
                let less : length l < 64 = grind (arith, nat_tests) in
                let more = r ++ 48 ∷ [] in
                let above : IsBelow l (w ++ more) = subst (λ x. IsBelow l x) (ap (λ x. x ++ 48 ∷ []) f.1 ∙ append_assoc w r (48 ∷ [])) (below_longer l 48 []) in
                let size : length (w ++ more) ≡ length w + (length r + 1) = simp length-append (omega arith) in
                (more, keys_join r (48 ∷ []) keys (refl, tt), good_from (Some l) (w ++ more) (omega (arith, size)) (omega (arith, size, long, less)) above)
            | inr t ↦
                let room : has_room r ≡ true = subst (λ x. has_room x ≡ true) (ap (drop (length w)) f.1 ∙ drop-append_seam w r) t in
                let m = raises r keys room in
                let above : IsBelow l (w ++ m.more) = subst (λ x. IsBelow x (w ++ m.more)) (sym f.1) (below_prefix w r m.more m.above) in
                let size : length (w ++ m.more) ≡ length w + length m.more = length-append w m.more in
                (m.more, m.keys, good_from (Some l) (w ++ m.more) (below_some l (w ++ m.more) above) (omega (arith, size, long, m.short, ok.short)) above)
          ]
    ]

key_whole : (last : Option (List ℕ)) → IsLast last → (w more : List ℕ) → Keys more → is_good_word last (w ++ more) ≡ true → may_be_word last w ≡ true
key_whole None ok w more k h =
    let g = good_facts None (w ++ more) h in
    le-leb (length w) 64 (omega (arith, g.0.1, length-append w more))
key_whole (Some l) ok w more k h =
    let g = good_facts (Some l) (w ++ more) h in
    let short : length w ≤ 64 = omega (arith, g.0.1, length-append w more) in
    let tail = is_lt (slice_cmp nat_cmp l w) || (is_prefix w l && (nat_lt (length l) 64 || has_room (drop (length w) l))) in
    let rest : tail ≡ true =
    elim (below_or_prefix l w more g.1) [
      | inl b ↦ or_left _ _ (ap is_lt b)
      | inr f ↦
          let r = prefix_rest w l f in
          let less : IsBelow r.0 more = below_cancel w r.0 more (subst (λ x. IsBelow x (w ++ more)) r.1 g.1) in
          let long : length l ≡ length w + length r.0 = ap length r.1 ∙ length-append w r.0 in
          let back : drop (length w) l ≡ r.0 = ap (drop (length w)) r.1 ∙ drop-append_seam w r.0 in
          or_right (is_lt (slice_cmp nat_cmp l w)) _
          (elim (room_or_longer r.0 more k less) [
            | inl q ↦ rw f (or_right (nat_lt (length l) 64) _ (subst (λ x. has_room x ≡ true) (sym back) q))
            | inr q ↦ let few : length l < 64 = omega (arith, q, long, g.0.1, length-append w more) in rw f (or_left (nat_lt (length l) 64) _ (lt-ltb (length l) 64 few))
          ])
    ] in
    rw (le-leb (length w) 64 short) rest

-- a word above the last one and the space after it
pub key_code : (last : Option (List ℕ)) → IsLast last → IsCode (IsKey last) (λ w. w ++ 32 ∷ []) (key_at last)
unfolding Extends
key_code last ok =
    same_code (token_code is_key_byte (is_good_word last) (may_be_word last) 32 refl (key_sound last ok) (key_whole last ok)) (IsKey last) (λ w. w ++ 32 ∷ []) (λ w. refl)
    (λ w h. let g = good_facts last w h.1 in (record { some = g.0.0; short = g.0.1; bytes = h.0 }, g.1))
    (λ w h. (h.0.bytes, good_from last w h.0.some h.0.short h.1))
