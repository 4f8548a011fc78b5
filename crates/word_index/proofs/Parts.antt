-- The parts of a block, where one more comes last.
use Rattle.std.proofs.Common.{◌≡◌, ℕ, zero, suc, ◌+◌, ◌-◌, ◌<◌, ◌≤◌, List, [], ◌∷◌, ◌++◌, length, get_or, take, drop, refl, sym, ap, ◌∙◌, arith, length-drop, length-append}
use Rattle.std.proofs.Math.Seq.{take-length, drop-append_seam}
use Rattle.std.proofs.lemmas.List.{take-append-le, drop-append-le, drop_all, drop-drop, take-append-drop}
use Rattle.std.specs.List.{slice_range, flat_map}
use Rattle.word_index.specs.Blocks.{parts, AreEnds}

module _ {X : Type 0} where
  -- a slice that lies within the block stays where more follows
  slice_stays : (block more : List X) (a b : ℕ) → a ≤ b → b ≤ length block → slice_range (block ++ more) a b ≡ slice_range block a b
  slice_stays block more a b h k =
      let low : a ≤ length block = omega arith in
      let wide : b - a ≤ length (drop a block) = omega (arith, length-drop a block) in
      ap (take (b - a)) (drop-append-le a block more low) ∙ take-append-le (b - a) (drop a block) more wide

  slice_new : (block more : List X) → slice_range (block ++ more) (length block) (length block + length more) ≡ more
  slice_new block more =
      let wide : length block + length more - length block ≡ length more = omega arith in
      ap (take (length block + length more - length block)) (drop-append_seam block more) ∙ ap (λ n. take n more) wide ∙ take-length more

  pub length_parts : (block : List X) (start : ℕ) (ends : List ℕ) → length (parts block start ends) ≡ length ends
  length_parts block start [] = refl
  length_parts block start (e ∷ ends) = ap suc (length_parts block e ends)

  start_within : (block : List X) (start : ℕ) (ends : List ℕ) → AreEnds block start ends → start ≤ length block
  start_within block start [] h = omega (arith, h)
  start_within block start (e ∷ ends) h = omega (arith, h.0, start_within block e ends h.1)

  -- where a part lies, and which it is
  pub record IsPart (block : List X) (low high : ℕ) (part : List X) : Type 0 where
    pub rising : low ≤ high
    pub within : high ≤ length block
    pub is : slice_range block low high ≡ part

  pub part_at : (block : List X) (start : ℕ) (ends : List ℕ) (k : ℕ) → AreEnds block start ends → k < length ends
      → IsPart block (get_or (start ∷ ends) k 0) (get_or ends k 0) (get_or (parts block start ends) k [])
  part_at block start [] k h below = absurd (omega (arith, below))
  part_at block start (e ∷ ends) zero h below = record { rising = h.0; within = start_within block e ends h.1; is = refl }
  part_at block start (e ∷ ends) (suc k) h below = part_at block e ends k h.1 (omega (arith, below))

  pub parts_push : (block more : List X) (start : ℕ) (ends : List ℕ) → AreEnds block start ends
      → parts (block ++ more) start (ends ++ (length block + length more) ∷ []) ≡ parts block start ends ++ more ∷ []
  parts_push block more start [] h = ap (λ n. slice_range (block ++ more) n (length block + length more) ∷ []) h ∙ ap (λ x. x ∷ []) (slice_new block more)
  parts_push block more start (e ∷ ends) h =
      let same = slice_stays block more start e h.0 (start_within block e ends h.1) in
      let rest = parts_push block more e ends h.1 in
      λ i. same i ∷ rest i

  pub ends_push : (block more : List X) (start : ℕ) (ends : List ℕ) → AreEnds block start ends
      → AreEnds (block ++ more) start (ends ++ (length block + length more) ∷ [])
  ends_push block more start [] h = (omega (arith, h), sym (length-append block more))
  ends_push block more start (e ∷ ends) h = (h.0, ends_push block more e ends h.1)

  -- the parts one after the other are the block
  pub parts_joined : (block : List X) (start : ℕ) (ends : List ℕ) → AreEnds block start ends → flat_map (λ r. r) (parts block start ends) ≡ drop start block
  parts_joined block start [] h = sym (drop_all start block (omega (arith, h)))
  parts_joined block start (e ∷ ends) h =
      let apart : start + (e - start) ≡ e = omega (arith, h.0) in
      ap (λ l. slice_range block start e ++ l) (parts_joined block e ends h.1 ∙ sym (drop-drop (e - start) start block ∙ ap (λ n. drop n block) apart))
      ∙ take-append-drop (e - start) (drop start block)
