-- A state from the bytes that keep it: decoding an encoding gives the state back.
use mathlib.Core.Bool.{Bool, true, false}
use mathlib.Core.Path.{◌≡◌, refl, ap, ◌∙◌}
use mathlib.Core.List.{List, [], ◌∷◌, ◌++◌}
use Prim.Native.Nat.{ℕ, zero, suc, ◌+◌, ◌-◌, ◌≤◌, ◌<◌, min}
use native.Mathlib.Omega.{arith}
use lib.ListN.{length, take, drop, get_or, replicate, length-append, length-replicate}
use lib.Seq.{take_all, take_at, drop_at}
use Rattle.line.specs.Choice.{bit_of}
use Rattle.line.specs.Numbers.{rbf_bytes, tbf_bytes}
use Rattle.place.specs.declared.Field.TheVariants.{Broadcast, Master, Slave, Control, Length, Data}
use Rattle.place.specs.declared.Frame.{Frame}
use Rattle.place.specs.declared.Place.{Place}
use Rattle.place.specs.declared.Place.TheVariants.{Waiting, In}
use Rattle.rules.specs.State.{State}
use Rattle.rules.specs.declared.state.Registers.{Registers}
use Rattle.keeping.specs.Layout.{frame_end, idle_place, part, registers_end, state_bytes, tbf_end}
use Rattle.keeping.specs.Encode.{Fits, FrameFits, RegistersFit, buffer_bytes, encode, frame_bytes, high, low}
use Rattle.keeping.specs.Encode.{place_count, place_number, register_bytes}
use Rattle.keeping.specs.Decode.{buffer_in, decode, flag_of, frame_in, joined, place_of, registers_in}

pair_again : (n : ℕ) → n < 0x1_0000 → joined (low n) (high n) ≡ n
pair_again n h = omega arith

flag_again : (b : Bool) → flag_of (bit_of b) ≡ b
flag_again true = refl
flag_again false = refl

place_again : (p : Place) → place_of (place_number p) (place_count p) ≡ p
unfolding place_of place_number place_count
place_again Waiting = refl
place_again (In Broadcast n) = refl
place_again (In Master n) = refl
place_again (In Slave n) = refl
place_again (In Control n) = refl
place_again (In Length n) = refl
place_again (In Data n) = refl

registers_again : (r : Registers) → RegistersFit r → registers_in (register_bytes r) ≡ r
unfolding registers_in register_bytes
registers_again r f =
    simp (
      pair_again r.own f.own,
      pair_again r.slave f.slave,
      pair_again r.holder f.holder,
      flag_again r.enabled,
      flag_again r.long,
      flag_again r.bit,
      flag_again r.marq,
      flag_again r.strq,
      flag_again r.slre,
      flag_again r.locked,
    )

frame_again : (f : Frame) (idle : ℕ) → FrameFits f → frame_in (frame_bytes f ++ idle ∷ []) ≡ f
unfolding frame_in frame_bytes
frame_again f idle h =
    simp (
      place_again f.place,
      pair_again f.shift h.shift,
      pair_again f.master h.master,
      pair_again f.slave h.slave,
      pair_again f.length h.length,
      pair_again f.acked h.acked,
      flag_again f.broadcast,
      flag_again f.sound,
      flag_again f.ack,
      flag_again f.leads,
      flag_again f.sends,
    )

buffer_again : (room : ℕ) (l : List ℕ) → length l ≤ room → buffer_in room (buffer_bytes room l) ≡ l
unfolding buffer_in buffer_bytes
buffer_again room l h = let all : min room (length l) ≡ length l = omega arith in rw all (take_at l _ (length l) refl)

pub buffer_length : (room : ℕ) (l : List ℕ) → length l ≤ room → length (buffer_bytes room l) ≡ room + 1
unfolding buffer_bytes
buffer_length room l h =
    omega (arith, length-append l (replicate (room - length l) 0), length-replicate {A = ℕ} (room - length l) 0)

-- ---- the parts of an encoding

module _ (s : State) (fits : Fits s) where
  registers_part : part 0 registers_end (encode s) ≡ register_bytes s.core.regs
  unfolding encode register_bytes
  registers_part = refl

  frame_part : part registers_end frame_end (encode s) ≡ frame_bytes s.core.frame ++ bit_of s.core.idle ∷ []
  unfolding encode register_bytes frame_bytes
  frame_part = refl

  idle_part : get_or (encode s) idle_place 0 ≡ bit_of s.core.idle
  unfolding encode register_bytes frame_bytes
  idle_part = refl

  buffers_part : drop frame_end (encode s) ≡ buffer_bytes tbf_bytes s.tbf ++ buffer_bytes rbf_bytes s.rbf
  unfolding encode register_bytes frame_bytes
  buffers_part = refl

  tbf_part : part frame_end tbf_end (encode s) ≡ buffer_bytes tbf_bytes s.tbf
  tbf_part =
      ap (take 34) buffers_part
      ∙ take_at (buffer_bytes tbf_bytes s.tbf) _ 34 (buffer_length tbf_bytes s.tbf fits.tbf)

  rbf_start : drop tbf_end (encode s) ≡ buffer_bytes rbf_bytes s.rbf
  unfolding encode register_bytes frame_bytes
  rbf_start =
      drop_at (buffer_bytes tbf_bytes s.tbf) (buffer_bytes rbf_bytes s.rbf) 34
      (buffer_length tbf_bytes s.tbf fits.tbf)

  rbf_part : part tbf_end state_bytes (encode s) ≡ buffer_bytes rbf_bytes s.rbf
  rbf_part =
      ap (take 41) rbf_start
      ∙ take_all 41 (buffer_bytes rbf_bytes s.rbf) (omega (arith, buffer_length rbf_bytes s.rbf fits.rbf))

  pub decoded : decode (encode s) ≡ s
  unfolding decode
  decoded =
      rw (
        registers_part,
        frame_part,
        idle_part,
        tbf_part,
        rbf_part,
        registers_again s.core.regs fits.regs,
        frame_again s.core.frame (bit_of s.core.idle) fits.frame,
        flag_again s.core.idle,
        buffer_again tbf_bytes s.tbf fits.tbf,
        buffer_again rbf_bytes s.rbf fits.rbf,
      )

-- ---- how many bytes there are

take_most : (k : ℕ) (l : List ℕ) → length (take k l) ≤ k
take_most zero l = omega arith
take_most (suc k) [] = omega arith
take_most (suc k) (x ∷ l) = omega (arith, take_most k l)

buffer_most : (room : ℕ) (l : List ℕ) → length (buffer_in room l) ≤ room
unfolding buffer_in
buffer_most room l =
    omega (arith, take_most (min room (get_or l 0 0)) (drop 1 l))

encode_length : (s : State) → length s.tbf ≤ tbf_bytes → length s.rbf ≤ rbf_bytes → length (encode s) ≡ state_bytes
unfolding encode register_bytes frame_bytes
encode_length s t r =
    omega (
      arith,
      length-append (buffer_bytes tbf_bytes s.tbf) (buffer_bytes rbf_bytes s.rbf),
      buffer_length tbf_bytes s.tbf t,
      buffer_length rbf_bytes s.rbf r,
    )

-- bytes that encode what they decode to have the size of a state
pub same_size : (l : List ℕ) → l ≡ encode (decode l) → length l ≡ state_bytes
unfolding decode
same_size l e =
    ap length e
    ∙ encode_length (decode l) (buffer_most tbf_bytes (part frame_end tbf_end l))
    (buffer_most rbf_bytes (part tbf_end state_bytes l))
