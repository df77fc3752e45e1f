-- What is made for a firmware is a good image. Assumes nothing.
use mathlib.Core.Path.{◌≡◌, refl, sym, ap, ap₂, ◌∙◌}
use Prim.Native.Nat.{ℕ, ◌+◌, ◌-◌, ◌*◌, ◌≤◌}
use mathlib.Core.List.{List, [], ◌++◌, append-nil}
use mathlib.Core.Bool.{Bool, true, false}
use native.Mathlib.Omega.{arith}
use lib.ListN.{length, take, replicate, length-append}
use lib.Seq.{take_at, take-length, take-append-add, take-take}
use lib.Dec.{lit<, lit≤}
use Rattle.numbers.specs.Answer.{Answer, gives, then}
use Rattle.digest_fips180.specs.Sha256.{sha256, bytes, big_endian}
use Rattle.flash.specs.declared.Geometry.{Geometry}
use Rattle.flash.specs.Sizes.{geometry, firmware, within_limits, geometry_of}
use Rattle.flash.specs.Buffers.{partition_of}
use Rattle.flash.specs.Sectors.{firmware_of}
use Rattle.flash.proofs.Taken.{which_are_taken, tested}
use Rattle.flash.proofs.Answers.{partition_equal}
use Rattle.header_reader.specs.declared.Header.{Header}
use Rattle.header_reader.specs.Reading.{tag_places}
use Rattle.header_reader.proofs.Answers.{by_places}
use Rattle.header_writer.specs.Writing.{Write, header_bytes, write_header}
use Rattle.header_round_trips.specs.RoundTrips.{Holdable, carried_hint, carried, RoundTrip}
use Rattle.header_round_trips.proofs.Back.{written, write_then_read, header_length, places_read}
use Rattle.image.specs.Check.{values_in, covered, image_in, check_image}
use Rattle.image.proofs.Ordered.{digest_same}
use Rattle.numbers.proofs.Refusals.{given_same}
use Rattle.release_values.specs.declared.Stated.{Stated}
use Rattle.release_header.specs.Making.{digest_for, header_for, make_header}
use Rattle.release_header.proofs.Answers.{made, covers}
use Rattle.release_round_trips.proofs.Signed.{signed_digest}
use Rattle.release_round_trips.specs.Made.{Makable, Placed, MadeChecks, OutputHasNoSay, UnstatedHintHasNoSay, example_stated, example_firmware, PremisesMet}

-- a digest has 32 bytes
digest_length : (v : Stated) (f : List ℕ) → length (digest_for v f) ≡ 32
unfolding digest_for sha256 bytes big_endian
digest_length v f = refl

-- ---- the header

module _ (v : Stated) (f out : List ℕ) (g : Makable v f out) where
  holdable : Holdable (header_for v f)
  holdable =
      record {
        some = λ e. omega (arith, g.some);
        size = g.countable;
        version = g.values.version;
        timestamp = g.values.timestamp;
        auth_type = g.values.auth_type;
        digest = digest_length v f;
        signature = g.values.signature;
        hint = g.values.hint;
      }

  -- the values that are stated are carried as they are: without a hint the hint's bytes are 0
  carries : carried (header_for v f) ≡ header_for v f
  carries = λ i. record {
    size = length f;
    version = v.version;
    timestamp = v.timestamp;
    digest = digest_for v f;
    signature = v.signature;
    auth_type = v.auth_type;
    has_hint = v.has_hint;
    hint = same v.has_hint refl i;
  }
    where
      same : (b : Bool) → v.has_hint ≡ b → carried_hint b v.hint ≡ v.hint
      same true e = refl
      same false e = sym (g.values.no_hint e)

  abbrev w : Write
  w = make_header v f out

  trip : RoundTrip w out (header_for v f) (header_for v f)
  trip =
      let is : write_header (header_for v f) out ≡ w = made v f out g.room (λ e. omega (arith, g.some)) g.countable refl in
      let t : RoundTrip w out (header_for v f) (carried (header_for v f)) = rw (← is) (write_then_read (header_for v f) holdable out g.room) in
      rw carries at t

  abbrev h : List ℕ
  h = take 256 w.bytes

  length_h : length h ≡ 256
  length_h = ap length trip.header ∙ header_length (header_for v f) holdable

  -- what its digest covers, in every image that begins with it and the firmware
  covered_made : (rest : List ℕ) → sha256 (covered (header_bytes (header_for v f) ++ (f ++ rest)) 28 (length f)) ≡ digest_for v f
  unfolding digest_for
  covered_made rest =
      ap sha256 (covers v f (digest_for v f) (digest_length v f) g.values.signature g.values.hint f (f ++ rest) (take_at f rest (length f) refl)
      ∙ sym (covers v f (replicate 32 0) refl g.values.signature g.values.hint f f (take-length f)))

  digest_own : digest_for v f ≡ sha256 (take 28 w.bytes ++ f)
  digest_own =
      signed_digest v f g.values
      ∙ ap (λ (l : List ℕ). sha256 (l ++ f)) (ap (take 28) (sym trip.header) ∙ take-take 28 256 w.bytes (lit≤ tt))

  -- ---- the image

  sectors : (rest : List ℕ) → image_in (h ++ (f ++ rest)) ≡ gives (header_for v f)
  sectors rest =
      let b : List ℕ = h ++ (f ++ rest) in
      let l : List ℕ = written v.has_hint in
      let first : b ≡ header_bytes (header_for v f) ++ (f ++ rest) = ap (λ (x : List ℕ). x ++ (f ++ rest)) trip.header in
      let found : tag_places b ≡ gives l = ap tag_places first ∙ places_read (header_for v f) holdable (f ++ rest) in
      let is : values_in b l ≡ header_for v f = given_same (sym (by_places b found) ∙ trip.alone (f ++ rest)) in
      let size : (values_in b l).size ≡ length f = ap (λ (x : Header). x.size) is in
      digest_same b l found (omega (arith, size, length-append h (f ++ rest), length-append f rest, length_h))
      (ap₂ (λ (x : List ℕ) (n : ℕ). sha256 (covered x 28 n)) first size ∙ covered_made rest ∙ sym (ap (λ (x : Header). x.digest) is))
      ∙ ap gives is

  file : image_in (h ++ f) ≡ gives (header_for v f)
  file = rw append-nil at (sectors [])

  -- the firmware sectors begin with the header and the firmware
  front : (k : ℕ) (rest : List ℕ) → 256 + length f ≤ k → take k (h ++ (f ++ rest)) ≡ h ++ (f ++ take (k - 256 - length f) rest)
  front k rest le =
      let a : k ≡ length h + (k - 256) = omega (arith, length_h) in
      let b : k - 256 ≡ length f + (k - 256 - length f) = omega arith in
      ap (λ (n : ℕ). take n (h ++ (f ++ rest))) a ∙ take-append-add h (f ++ rest) (k - 256)
      ∙ ap (λ (n : ℕ). h ++ take n (f ++ rest)) b ∙ ap (λ (l : List ℕ). h ++ l) (take-append-add f rest (k - 256 - length f))

  partition : (n s : ℕ) (l : List ℕ) → Placed h f n s l → check_image n s l ≡ gives (header_for v f)
  unfolding check_image firmware
  partition n s l p =
      let taken = sym ((which_are_taken n s).taken.1 p.rules) in
      let fits : partition_of n s l ≡ gives (geometry n s) = sym (partition_equal n s l (geometry n s) taken p.whole) in
      let room : 256 + length f ≤ (n - 1) * s = omega (arith, p.holds, g.some) in
      ap (λ (a : Answer Geometry). then a (λ x. image_in (firmware_of x l))) fits
      ∙ ap (λ (x : List ℕ). image_in (take ((n - 1) * s) x)) p.begins
      ∙ ap image_in (front ((n - 1) * s) p.rest room)
      ∙ sectors (take ((n - 1) * s - 256 - length f) p.rest)

pub made_checks : MadeChecks
made_checks v f out g =
    record {
      taken = (trip v f out g).taken;
      others = (trip v f out g).others;
      extent = (trip v f out g).extent;
      digest = digest_own v f out g;
      in_partition = partition v f out g;
      in_sectors = sectors v f out g;
      in_file = file v f out g;
    }

pub output_has_no_say : OutputHasNoSay
output_has_no_say v f out out' g g' = (trip v f out g).header ∙ sym (trip v f out' g').header

-- without a hint no byte of it is written
pub unstated_hint_has_no_say : UnstatedHintHasNoSay
unfolding make_header digest_for write_header header_bytes
unstated_hint_has_no_say v f out e = rw e

-- ---- the premises can be met

example_makable : (hint : Bool) → Makable (example_stated hint) example_firmware (replicate 256 0)
example_makable hint =
    record {
      values =
          record {
            version = lit< tt;
            timestamp = lit< tt;
            auth_type = lit< tt;
            signature = refl;
            hint = refl;
            no_hint = λ e. refl;
          };
      some = lit< tt;
      countable = lit< tt;
      room = lit≤ tt;
    }

pub premises_met : PremisesMet
unfolding geometry_of within_limits firmware
premises_met hint =
    let g = example_makable hint in
    let x = h (example_stated hint) example_firmware (replicate 256 0) g in
    let l = length_h (example_stated hint) example_firmware (replicate 256 0) g in
    record {
      makable = g;
      partition = x ++ (example_firmware ++ replicate 512 0xFF);
      placed =
          record {
            rules = tested 2 512 refl;
            whole = length-append x (example_firmware ++ replicate 512 0xFF) ∙ ap (λ (n : ℕ). n + 768) l;
            rest = replicate 512 0xFF;
            begins = refl;
            holds = lit≤ tt;
          };
    }
