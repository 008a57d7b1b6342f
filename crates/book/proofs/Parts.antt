-- The parts of a book spell what the book spells there. Assumes nothing.
use Rattle.std.proofs.Common.{◌/◌, ◌≡◌, ℕ, zero, suc, ◌+◌, ◌-◌, ◌*◌, ◌<◌, ◌≤◌, cond, eqb, List, [], length, get_or, take, drop, slice_range, refl, ap, ◌∙◌, arith}
use Rattle.std.proofs.lemmas.List.{get_or-take, get_or-drop, drop-drop, length-drop, length-take-le}
use Rattle.std.specs.Int.{from_be_bytes, w16, w32}
use Rattle.std.specs.Simd.{first_chunks}
use Rattle.trace.specs.declared.parts.Mark.TheVariants.{Begin, End}
use Rattle.book.specs.Trailer.{start_in, delays_back, events_back, count_of_events, delays_in, count_of_delays, DelayEntries}
use Rattle.book.specs.Layout.{byte_at, number_at, pair_at, delay_at, delay_shaped, mark_spelled, marks_spelled, marks_shaped, PartOf}

part_take : (n : ℕ) (book : List ℕ) (at : ℕ) → PartOf n (take n (drop at book)) book at
part_take n book at k h = get_or-take n (drop at book) k 0 h ∙ get_or-drop at book k 0

-- the chunks that a list is cut into
chunk_at : {X : Type 0} (n : ℕ) (d : List X) (count i : ℕ) (xs : List X) → i < count → get_or (first_chunks n count xs) i d ≡ take n (drop (n * i) xs)
chunk_at n d zero i xs h = absurd (omega arith)
chunk_at n d (suc count) zero xs h = ap (λ k. take n (drop k xs)) {x = 0} {y = n * 0} (omega arith)
chunk_at n d (suc count) (suc i) xs h = chunk_at n d count i (drop n xs) (omega arith) ∙ ap (take n) (drop-drop (n * i) n xs) ∙ ap (λ k. take n (drop k xs)) (omega arith)

pub chunk_part : (n : ℕ) (d : List ℕ) (count i : ℕ) (xs : List ℕ) (cs : List (List ℕ)) → cs ≡ first_chunks n count xs → i < count → PartOf n (get_or cs i d) xs (n * i)
chunk_part n d count i xs cs cut h k below =
    ap (λ es. byte_at (get_or es i d) k) cut ∙ ap (λ e. byte_at e k) (chunk_at n d count i xs h) ∙ part_take n xs (n * i) k below

-- a number of four bytes, and one of two
long_part : (part book : List ℕ) (at : ℕ) → PartOf 4 part book at → from_be_bytes w32 part ≡ number_at 4 book at
long_part part book at h =
    let a = h 0 (omega arith) in
    let b = h 1 (omega arith) in
    let c = h 2 (omega arith) in
    let d = h 3 (omega arith) in
    omega (arith, a, b, c, d)

short_part : (part book : List ℕ) (at : ℕ) → PartOf 2 part book at → from_be_bytes w16 part ≡ number_at 2 book at
short_part part book at h =
    let a = h 0 (omega arith) in
    let b = h 1 (omega arith) in
    omega (arith, a, b)

-- the numbers that a trailer tells
pub trailer_read : (book delays events delay_count event_count : List ℕ) → PartOf 4 delays book (start_in book) → PartOf 4 events book (start_in book + 4) → PartOf 2 delay_count book (start_in book + 8) → PartOf 2 event_count book (start_in book + 10)
    → (from_be_bytes w32 delays ≡ delays_back book) × (from_be_bytes w32 events ≡ events_back book) × (from_be_bytes w16 delay_count ≡ count_of_delays book) × (from_be_bytes w16 event_count ≡ count_of_events book)
trailer_read book delays events delay_count event_count a b c d = (long_part delays book _ a, long_part events book _ b, short_part delay_count book _ c, short_part event_count book _ d)

part_range : (n : ℕ) (book : List ℕ) (at to : ℕ) → to ≡ at + n → PartOf n (slice_range book at to) book at
part_range n book at to e k h = part_take (to - at) book at k (omega arith)

length_range : (n : ℕ) (book : List ℕ) (at to : ℕ) → to ≡ at + n → to ≤ length book → length (slice_range book at to) ≡ n
length_range n book at to e h = length-take-le (to - at) (drop at book) (simp length-drop (omega arith)) ∙ omega arith

-- n delay entries, cut out of a book
pub delay_entries : (book : List ℕ) (entries : List (List ℕ)) (at n : ℕ) → at ≡ delays_in book → n ≡ count_of_delays book → at + 20 * n ≤ length book → (let part = slice_range book at (at + 20 * n) in (entries ≡ first_chunks 20 (length part / 20) part) × (length entries ≡ length part / 20)) → DelayEntries entries book
delay_entries book entries at n begins are fits cut =
    let part : List ℕ = slice_range book at (at + 20 * n) in
    let long : length part ≡ 20 * n = length_range (20 * n) book at (at + 20 * n) refl fits in
    let count : length part / 20 ≡ n = omega arith in (
      cut.1 ∙ count ∙ are,
      λ k h j below.
          let inside : k < length part / 20 = omega (arith, cut.1) in
          chunk_part 20 [] (length part / 20) k part entries cut.0 inside j below
          ∙ part_range (20 * n) book at (at + 20 * n) refl (20 * k + j) (omega (arith, cut.1))
          ∙ ap (byte_at book) (ap (λ m. m + (20 * k + j)) begins ∙ omega arith),
    )

module _ (n : ℕ) (part book : List ℕ) (at : ℕ) (same : PartOf n part book at) where
  number_part : (m k : ℕ) → k + m ≤ n → number_at m part k ≡ number_at m book (at + k)
  number_part zero k h = refl
  number_part (suc m) k h =
      let b : byte_at part (k + m) ≡ byte_at book (at + k + m) = same (k + m) (omega arith) ∙ ap (byte_at book) (omega arith) in
      ap (λ x. x * 256 + byte_at part (k + m)) (number_part m k (omega arith)) ∙ ap (λ x. number_at m book (at + k) * 256 + x) b

  pair_part : (k : ℕ) → k + 8 ≤ n → pair_at part k ≡ pair_at book (at + k)
  pair_part k h =
      let first : number_at 4 part k ≡ number_at 4 book (at + k) = number_part 4 k (omega arith) in
      let second : number_at 4 part (k + 4) ≡ number_at 4 book (at + k + 4) = number_part 4 (k + 4) (omega arith) ∙ ap (number_at 4 book) (omega arith) in
      cc

  pub delay_part : 20 ≤ n → delay_at part 0 ≡ delay_at book at
  delay_part h =
      let process : byte_at part 0 ≡ byte_at book at = same 0 (omega arith) ∙ ap (byte_at book) (omega arith) in
      let present : byte_at part 1 ≡ byte_at book (at + 1) = same 1 (omega arith) in
      let lower : pair_at part 4 ≡ pair_at book (at + 4) = pair_part 4 (omega arith) in
      let upper : pair_at part 12 ≡ pair_at book (at + 12) = pair_part 12 (omega arith) in
      cc

  pub delay_shape : 20 ≤ n → delay_shaped part 0 ≡ delay_shaped book at
  delay_shape h =
      let present : byte_at part 1 ≡ byte_at book (at + 1) = same 1 (omega arith) in
      let zeros : number_at 2 part 2 ≡ number_at 2 book (at + 2) = number_part 2 2 (omega arith) in
      let upper : number_at 8 part 12 ≡ number_at 8 book (at + 12) = number_part 8 12 (omega arith) in
      cc

  pub mark_part : (k : ℕ) → k + 2 ≤ n → mark_spelled part k ≡ mark_spelled book (at + k)
  mark_part k h =
      let a : byte_at part k ≡ byte_at book (at + k) = same k (omega arith) in
      let b : byte_at part (k + 1) ≡ byte_at book (at + k + 1) = same (k + 1) (omega arith) ∙ ap (byte_at book) (omega arith) in
      ap (λ x. cond (eqb x 0) (Begin (byte_at part (k + 1))) (End (byte_at part (k + 1)))) a
      ∙ ap (λ y. cond (eqb (byte_at book (at + k)) 0) (Begin y) (End y)) b

  pub marks_part : (m : ℕ) → 2 * m ≤ n → (marks_spelled m part 0 ≡ marks_spelled m book at) × (marks_shaped m part 0 ≡ marks_shaped m book at)
  marks_part zero h = (refl, refl)
  marks_part (suc m) h =
      let old = marks_part m (omega arith) in
      let mark : mark_spelled part (0 + 2 * m) ≡ mark_spelled book (at + 2 * m) = ap (mark_spelled part) (omega arith) ∙ mark_part (2 * m) (omega arith) in
      let side : byte_at part (0 + 2 * m) ≡ byte_at book (at + 2 * m) = ap (byte_at part) (omega arith) ∙ same (2 * m) (omega arith) in
      (cc, cc)
