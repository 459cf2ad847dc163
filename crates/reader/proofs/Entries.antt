-- The frame before against the frame at hand: the code's comparison is the one of the readings.
use mathlib.Core.Bool.{true, ◌&&◌}
use mathlib.Core.Path.{◌≡◌, refl, sym, ap, ap₂, ◌∙◌}
use mathlib.Core.List.{List, [], ◌∷◌, map}
use Prim.Native.Nat.{ℕ, zero, suc, ◌+◌, ◌*◌, ◌/◌, ◌%◌, ◌<◌, ◌≤◌}
use native.Mathlib.Omega.{arith}
use borrow.Author.Tests.{eq-eqb, eqb-true}
use lib.Dec.{eqb}
use lib.ListN.{get_or-eq_default, drop, get_or, length}
use lib.Seq.{ext_get_or}
use Rattle.std.proofs.Common.{Some}
use Rattle.std.proofs.lemmas.Bool.Decides.{same_from_decides}
use Rattle.std.proofs.lemmas.Slice.Eq.{bytes_eq-Decides}
use Rattle.line.proofs.Either.{both}
use Rattle.line.specs.Cases.{same}
use Rattle.logs.proofs.Again.{byte_of, same_lists, same_self, took_of}
use Rattle.logs.specs.Data.{Acked, no_byte}
use Rattle.logs.specs.Readings.{Reading, bit_in, bytes_in, control_in, equal_frames, equal_said, length_of, master_in}
use Rattle.logs.specs.Readings.{slave_in, took_in}
use Rattle.logs.specs.Records.{byte_word, second_word}
use Rattle.reader.specs.declared.entry.Entry.{Entry}
use Rattle.reader.specs.declared.head.Front.{Front}
use Rattle.reader.specs.Entries.{Stands, acked_in, alike_entries, alike_fronts, bytes_from, said_of}

-- five numbers alike, and none behind them
five : (xs ys : List ℕ) → length xs ≤ 5 → length ys ≤ 5 → get_or xs 0 0 ≡ get_or ys 0 0 → get_or xs 1 0 ≡ get_or ys 1 0
    → get_or xs 2 0 ≡ get_or ys 2 0 → get_or xs 3 0 ≡ get_or ys 3 0 → get_or xs 4 0 ≡ get_or ys 4 0
    → (i : ℕ) → get_or xs i 0 ≡ get_or ys i 0
five xs ys few fewer a b c d e zero = a
five xs ys few fewer a b c d e (suc zero) = b
five xs ys few fewer a b c d e (suc (suc zero)) = c
five xs ys few fewer a b c d e (suc (suc (suc zero))) = d
five xs ys few fewer a b c d e (suc (suc (suc (suc zero)))) = e
five xs ys few fewer a b c d e (suc (suc (suc (suc (suc i))))) =
    get_or-eq_default xs 0 (omega arith) ∙ sym (get_or-eq_default ys 0 (omega arith))

-- the numbers of a first word, each taken out again
module _ (b c l a u : ℕ) where
  abbrev word : ℕ
  word = b * 0x20 + c * 0x40 + l * 0x400 + a * 0x8_0000 + u * 0x200_0000

  bit_out : b < 2 → word / 0x20 % 2 ≡ b
  bit_out low = omega arith

  control_out : b < 2 → c < 0x10 → word / 0x40 % 0x10 ≡ c
  control_out low lower = omega arith

  bytes_out : b < 2 → c < 0x10 → l ≤ 0x100 → word / 0x400 % 0x200 ≡ l
  bytes_out low lower most = omega arith

  unacked_out : b < 2 → c < 0x10 → l ≤ 0x100 → a ≤ 32 → word / 0x200_0000 ≡ u
  unacked_out low lower most few = omega arith

first_alike : (b c l a u b₁ c₁ l₁ a₁ u₁ : ℕ) → b < 2 → c < 0x10 → l ≤ 0x100 → a ≤ 32 → b₁ < 2 → c₁ < 0x10
    → l₁ ≤ 0x100 → a₁ ≤ 32 → word b c l a u ≡ word b₁ c₁ l₁ a₁ u₁
    → (b ≡ b₁) × (c ≡ c₁) × (l ≡ l₁) × (u ≡ u₁)
first_alike b c l a u b₁ c₁ l₁ a₁ u₁ hb hc hl ha hb₁ hc₁ hl₁ ha₁ e = (
  sym (bit_out b c l a u hb) ∙ ap (λ (w : ℕ). w / 0x20 % 2) e ∙ bit_out b₁ c₁ l₁ a₁ u₁ hb₁,
  sym (control_out b c l a u hb hc) ∙ ap (λ (w : ℕ). w / 0x40 % 0x10) e ∙ control_out b₁ c₁ l₁ a₁ u₁ hb₁ hc₁,
  sym (bytes_out b c l a u hb hc hl) ∙ ap (λ (w : ℕ). w / 0x400 % 0x200) e
      ∙ bytes_out b₁ c₁ l₁ a₁ u₁ hb₁ hc₁ hl₁,
  sym (unacked_out b c l a u hb hc hl ha) ∙ ap (λ (w : ℕ). w / 0x200_0000) e
      ∙ unacked_out b₁ c₁ l₁ a₁ u₁ hb₁ hc₁ hl₁ ha₁,
)

second_alike : (m s m₁ s₁ : ℕ) → m < 0x1000 → m₁ < 0x1000 → m + s * 0x1000 ≡ m₁ + s₁ * 0x1000
    → (m ≡ m₁) × (s ≡ s₁)
second_alike m s m₁ s₁ hm hm₁ e = (omega arith, omega arith)

-- ACKed bytes are alike whose words are, or whose bytes and attempts are
abbrev acked_with : (byte attempts : ℕ) → Acked
acked_with byte attempts = record { byte = byte; attempts = attempts }

words_apart : (xs ys : List Acked) → ((i : ℕ) → (get_or xs i no_byte).byte < 0x100)
    → ((i : ℕ) → (get_or ys i no_byte).byte < 0x100) → map byte_word xs ≡ map byte_word ys → xs ≡ ys
words_apart [] [] low lower e = refl
words_apart [] (y ∷ ys) low lower e = cc
words_apart (x ∷ xs) [] low lower e = cc
words_apart (x ∷ xs) (y ∷ ys) low lower e =
    let first = ap (λ (l : List ℕ). get_or l 0 0) e in
    let byte : x.byte ≡ y.byte = omega (arith, first, low 0, lower 0) in
    let attempts : x.attempts ≡ y.attempts = omega (arith, first, low 0, lower 0) in
    ap₂ ◌∷◌ (ap₂ acked_with byte attempts)
    (words_apart xs ys (λ i. low (suc i)) (λ i. lower (suc i)) (ap (drop 1) e))

parts_alike : (xs ys : List Acked) → map byte_of xs ≡ map byte_of ys → map took_of xs ≡ map took_of ys → xs ≡ ys
parts_alike [] [] bytes attempts = refl
parts_alike [] (y ∷ ys) bytes attempts = cc
parts_alike (x ∷ xs) [] bytes attempts = cc
parts_alike (x ∷ xs) (y ∷ ys) bytes attempts =
    ap₂ ◌∷◌
    (ap₂ acked_with (ap (λ (l : List ℕ). get_or l 0 0) bytes) (ap (λ (l : List ℕ). get_or l 0 0) attempts))
    (parts_alike xs ys (ap (drop 1) bytes) (ap (drop 1) attempts))

-- alike fronts are equal
pub fronts_alike : (a b : Front) → alike_fronts a b ≡ true → a ≡ b
fronts_alike a b test =
    let (many, others) = both (eqb a.given b.given) _ test in
    let (said, addresses) = both (eqb a.said b.said) _ others in
    rw (eqb-true a.given b.given many, eqb-true a.said b.said said, eqb-true a.addresses b.addresses addresses) refl

-- the bytes of an entry
abbrev bytes_of : List ℕ → Entry → List ℕ
bytes_of records entry = bytes_from records entry.bytes (acked_in entry)

module _ {r s : Reading} {a b : Entry} {records : List ℕ} (p : Stands r a records) (q : Stands s b records) where
  said_told : said_of r ≡ said_of s
      → (bit_in r ≡ bit_in s) × (control_in r ≡ control_in s) × (length_of r ≡ length_of s)
      × (r.text.unacked ≡ s.text.unacked)
  said_told =
      let v = p.values in
      let w = q.values in
      first_alike (bit_in r) (control_in r) (length_of r) _ _ (bit_in s) (control_in s) (length_of s) _ _
      v.bit_low v.control_low v.bytes_most p.acked_most w.bit_low w.control_low w.bytes_most
      q.acked_most

  given_told : length s.given ≡ length r.given → said_of r ≡ said_of s → second_word r ≡ second_word s
      → s.given ≡ r.given
  given_told many said addresses =
      let (bit, control, bytes, _) = said_told said in
      let (master, slave) = second_alike (master_in r) (slave_in r) (master_in s) (slave_in s) p.values.master_low
      q.values.master_low addresses in
      ext_get_or 0 s.given r.given many
      (λ i h. sym (five r.given s.given p.few q.few bit master slave control bytes i))

  to : alike_entries records (Some a) b ≡ true → equal_frames r s ≡ true
  unfolding alike_entries equal_frames equal_said
  to test =
      let (fronts, bytes) = both (alike_fronts a.front b.front) _ test in
      let front = fronts_alike a.front b.front fronts in
      let told = sym p.said ∙ ap (λ (f : Front). f.said) front ∙ q.said in
      let many = sym q.given ∙ sym (ap (λ (f : Front). f.given) front) ∙ p.given in
      let given = given_told many told
      (sym p.addresses ∙ ap (λ (f : Front). f.addresses) front ∙ q.addresses) in
      let acked : s.text.acked ≡ r.text.acked =
      words_apart s.text.acked r.text.acked q.bytes_low p.bytes_low
      (sym q.bytes ∙ sym ((bytes_eq-Decides (bytes_of records a) (bytes_of records b)).0 bytes) ∙ p.bytes) in
      let after = (said_told told).3 in
      rw (given, acked, ← after, same_self r.given, same_self (bytes_in r), same_self (took_in r))
      (eq-eqb r.text.unacked r.text.unacked refl)

  back : equal_frames r s ≡ true → alike_entries records (Some a) b ≡ true
  unfolding alike_entries equal_frames equal_said
  back equal =
      let (lists, after) = both (equal_said r s && same (took_in r) (took_in s)) _ equal in
      let (old, took) = both (equal_said r s) _ lists in
      let (fields, bytes) = both (same r.given s.given) _ old in
      let given = same_lists r.given s.given fields in
      let acked = parts_alike r.text.acked s.text.acked (same_lists (bytes_in r) (bytes_in s) bytes)
      (same_lists (took_in r) (took_in s) took) in
      let unacked = eqb-true r.text.unacked s.text.unacked after in
      let many : a.front.given ≡ b.front.given = p.given ∙ ap length given ∙ sym q.given in
      let told : said_of r ≡ said_of s = rw (given, acked, unacked) in
      let said : a.front.said ≡ b.front.said = p.said ∙ told ∙ sym q.said in
      let addresses : a.front.addresses ≡ b.front.addresses =
      p.addresses ∙ ap (λ (l : List ℕ). get_or l 1 0 + get_or l 2 0 * 0x1000) given ∙ sym q.addresses
      in
      let bytes : bytes_of records a ≡ bytes_of records b = p.bytes ∙ ap (map byte_word) acked ∙ sym q.bytes in
      rw (eq-eqb _ _ many, eq-eqb _ _ said, eq-eqb _ _ addresses)
      ((bytes_eq-Decides (bytes_of records a) (bytes_of records b)).1 bytes)

  pub entries_alike : alike_entries records (Some a) b ≡ equal_frames r s
  entries_alike =
      same_from_decides (alike_entries records (Some a) b) (equal_frames r s) (to, back) ((λ e. e), (λ e. e))
