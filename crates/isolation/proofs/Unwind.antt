-- From what a machine does at one word to what two lists do: a machine that meets the conditions of `Unwinding`
-- protects the holder of its lock. The run on a list is compared, word by word, with the run on its kept words alone;
-- two lists whose kept words are the same are then alike, since both are like one and the same run.
use mathlib.Core.Bool.{Bool, true, false, false≢true}
use mathlib.Core.Path.{◌≡◌, refl, sym, ap, ◌∙◌, subst}
use mathlib.Core.List.{List, [], ◌∷◌, map}
use Prim.Native.Nat.{ℕ, zero, suc, ◌≤◌}
use native.Mathlib.Omega.{arith}
use native.Mathlib.Nat.{add-zero}
use lib.ListN.{take, drop, get_or}
use lib.Seq.{get_or-drop}
use Rattle.line.specs.Choice.{pick}
use Rattle.line.specs.Numbers.{drive_released}
use Rattle.line.specs.Slot.{Class, slot, stray, host, class_of}
use Rattle.line.specs.declared.slot.Slot.TheVariants.{Level, Start, Idle}
use Rattle.isolation.specs.Words.{levels, framed, marks, spaced, marked, count, keeps, kept}
use Rattle.isolation.specs.Runs.{Machine, shown, latest, driven, Behind, Places}
use Rattle.isolation.specs.Runs.{run, answers, Compared, Given, Protected}
use Rattle.isolation.proofs.Unwinding.{Unwinding}

-- ---- lists

-- an element of a list is the first of what is left behind the elements before it
first_behind : {X : Type 0} (i : ℕ) (l : List X) (x : X) → get_or (drop i l) 0 x ≡ get_or l i x
first_behind i l x = get_or-drop i l 0 x ∙ ap (λ (k : ℕ). get_or l k x) (add-zero i)

-- a marked word stands among the marked words behind as many as are marked before it
marked_at : (ms : List Bool) (ws : List ℕ) (i : ℕ) → get_or ms i false ≡ true
    → get_or ws i 0 ≡ get_or (marked ms ws) (count (take i ms)) 0
unfolding marked count
marked_at [] ws i k = absurd (false≢true k)
marked_at (m ∷ ms) [] i k = refl
marked_at (true ∷ ms) (w ∷ ws) zero k = refl
marked_at (false ∷ ms) (w ∷ ws) zero k = absurd (false≢true k)
marked_at (true ∷ ms) (w ∷ ws) (suc i) k = marked_at ms ws i k
marked_at (false ∷ ms) (w ∷ ws) (suc i) k = marked_at ms ws i k

-- ---- where a list stands

-- between frames, in a frame of another's, or in one of h's
data Mode : Type 0 where
  between other mine : Mode

-- a start slot lies behind, and no idle slot since
abbrev busy : Mode → Bool
busy between = false
busy other = true
busy mine = true

-- a frame of h's is open
abbrev ours : Mode → Bool
ours between = false
ours other = false
ours mine = true

module _ (M : Machine) where
  -- where a run stands: the state, and what is driven
  record Point : Type 0 where
    state : M.State
    drive : ℕ

  -- after one word more, and after a list of them
  abbrev after : Point → ℕ → Point
  after p w = record { state = M.step p.state w; drive = latest p.drive (M.answer p.state w) }

  goes : Point → List ℕ → Point
  goes p [] = p
  goes p (w ∷ ws) = goes (after p w) ws

  -- the beginning, from a state s: no answer has been given yet
  abbrev begins : M.State → Point
  begins s = record { state = s; drive = drive_released }

  -- the point that the first n of the kept words lead to
  abbrev kept_to : ℕ → M.State → List ℕ → ℕ → Point
  kept_to h s A n = goes (begins s) (take n (kept h A))

  -- the state at the point that a list leads to is that of the run
  goes_state : (p : Point) (ws : List ℕ) → (goes p ws).state ≡ run M p.state ws
  unfolding goes run
  goes_state p [] = refl
  goes_state p (w ∷ ws) = goes_state (after p w) ws

  -- what is driven there is told by the answers
  goes_drive : (p : Point) (ws : List ℕ) (i : ℕ)
      → driven p.drive (take i (answers M p.state ws)) ≡ (goes p (take i ws)).drive
  unfolding goes driven answers
  goes_drive p ws zero = refl
  goes_drive p [] (suc i) = refl
  goes_drive p (w ∷ ws) (suc i) = goes_drive (after p w) ws i

  -- the answers behind i words are those from the point that they lead to
  answers_behind : (p : Point) (ws : List ℕ) (i : ℕ)
      → drop i (answers M p.state ws) ≡ answers M (goes p (take i ws)).state (drop i ws)
  unfolding goes answers
  answers_behind p ws zero = refl
  answers_behind p [] (suc i) = refl
  answers_behind p (w ∷ ws) (suc i) = answers_behind (after p w) ws i

  -- a run that waits and releases the line
  record Rests (p : Point) : Type 0 where
    waits : M.waiting p.state
    released : p.drive ≡ drive_released

  -- to a word of class c, a list's run at p answers a, which is what its kept words' run at q answers; and both drive
  -- alike in its slot
  record Told (c : Class) (w a : ℕ) (p q : Point) : Type 0 where
    reply : shown c a ≡ shown c (M.answer q.state w)
    drives : (c ≡ host → ⊥) → p.drive ≡ q.drive

  -- a comparison that goes on behind the first word
  onward : (s : M.State) (w : ℕ) (ws : List ℕ) (i : ℕ) → Compared M s (w ∷ ws) (suc i)
      → Compared M (M.step s w) ws i
  unfolding run
  onward s w ws i c =
      record { held = λ k l. c.held (suc k) (omega arith); unasked = λ k l. c.unasked (suc k) (omega arith) }

  -- a comparison that goes so far goes less far too
  pub shorter : (s : M.State) (A : List ℕ) (i k : ℕ) → k ≤ i → Compared M s A i → Compared M s A k
  shorter s A i k g c =
      record { held = λ j l. c.held j (omega arith); unasked = λ j l. c.unasked j (omega arith) }

module _ (M : Machine) (h : ℕ) (U : Unwinding M h) where
  -- ---- a list against its kept words

  -- how a list's run, at p, is to its kept words' run, at q. Between frames both rest, and they are kept alike
  record Between (p q : Point M) : Type 0 where
    rests : Rests M p
    kept_rests : Rests M q
    same : U.keep p.state ≡ U.keep q.state

  -- in a frame of another's, of which the levels bs are still to come, the second rests
  record Other (bs : List Bool) (p q : Point M) : Type 0 where
    calm : U.calm p.state bs
    kept_rests : Rests M q
    same : U.keep p.state ≡ U.keep q.state

  -- in a frame of h's they are one
  Related : Mode → List Bool → Point M → Point M → Type 0
  Related between bs p q = Between p q
  Related other bs p q = Other bs p q
  Related mine bs p q = p ≡ q

  -- in every mode they are kept alike
  related_keep : (m : Mode) (bs : List Bool) (p q : Point M) → Related m bs p q
      → U.keep p.state ≡ U.keep q.state
  unfolding Related
  related_keep between bs p q x = x.same
  related_keep other bs p q x = x.same
  related_keep mine bs p q x = ap (λ (z : Point M). U.keep z.state) x

  -- ---- one word

  -- a stray word leaves a run where it was
  stray_stays : (p : Point M) (w : ℕ) → class_of w ≡ stray → after M p w ≡ p
  stray_stays p w r =
      let y = U.on_stray p.state w r in
      λ i. record { state = y.0 i; drive = y.1 p.drive i }

  -- an idle slot brings a run to rest
  idle_rests : (p : Point M) (w : ℕ) → class_of w ≡ slot Idle → M.requesting (M.step p.state w) ≡ false
      → Rests M (after M p w)
  idle_rests p w r n = let y = U.on-idle p.state w r in record { waits = y.0; released = y.1 n p.drive }

  -- a host word leaves a run at rest
  host_rests : (p : Point M) (w : ℕ) → class_of w ≡ host → M.requesting (M.step p.state w) ≡ false → Rests M p
      → Rests M (after M p w)
  host_rests p w r n x =
      let y = U.wait_host p.state w r x.waits in
      record {
        waits = y.0;
        released = ap (λ (d : ℕ). latest d (M.answer p.state w)) x.released ∙ y.1 n;
      }

  -- a word has been taken, and the classes cs follow: where the list then stands, whether the word was kept, and that
  -- the runs are still related, the kept words' run being at `went` if it was and at `stayed` if not
  record Turn (ms : List Bool) (cs : List Class) (p stayed went : Point M) : Type 0 where
    mode : Mode
    is_kept : Bool
    mark : ms ≡ is_kept ∷ marks h (ours mode) cs
    gap : spaced (busy mode) cs ≡ true
    related : Related mode (levels cs) p (pick is_kept went stayed)

  module _ (p q : Point M) (w : ℕ) (cs : List Class) (n : M.requesting p.state ≡ false)
      (n' : M.requesting (M.step p.state w) ≡ false) where
    -- the word is struck: the kept words' run stays
    struck : (m : Mode) → spaced (busy m) cs ≡ true → Related m (levels cs) (after M p w) q
        → Turn (false ∷ marks h (ours m) cs) cs (after M p w) q (after M q w)
    struck m g x = record { mode = m; is_kept = false; mark = refl; gap = g; related = x }

    -- the word is kept: the kept words' run takes it too
    taken : (m : Mode) → spaced (busy m) cs ≡ true → Related m (levels cs) (after M p w) (after M q w)
        → Turn (true ∷ marks h (ours m) cs) cs (after M p w) q (after M q w)
    taken m g x = record { mode = m; is_kept = true; mark = refl; gap = g; related = x }

    -- the kept words' run rests after a host word, as it did before, and is kept alike still
    host_kept : class_of w ≡ host → Rests M q → U.keep p.state ≡ U.keep q.state
        → Rests M (after M q w) × (U.keep (after M p w).state ≡ U.keep (after M q w).state)
    host_kept r x k =
        let y = (U.host_same p.state q.state w r k).0 in
        (host_rests q w r (sym (U.asks (M.step p.state w) (M.step q.state w) y) ∙ n') x, y)

    -- a start slot between frames opens a frame of h's, and brings both runs to one point, or a frame of another's
    start_turn : (f : Bool) → framed h cs ≡ f → class_of w ≡ slot Start → Between p q → spaced true cs ≡ true
        → Turn (f ∷ marks h f cs) cs (after M p w) q (after M q w)
    unfolding Related framed
    start_turn true f r x g =
        let y = U.start_same p.state q.state w r x.rests.waits x.kept_rests.waits x.same n in
        let d = y.2 p.drive q.drive ∙ ap (latest q.drive) y.1 in
        taken mine g (λ i. record { state = y.0 i; drive = d i })
    start_turn false f r x g =
        let y = U.calm_start p.state w (levels cs) r x.rests.waits n f in
        struck other g record { calm = y.0; kept_rests = x.kept_rests; same = y.1 ∙ x.same }

    -- a word between frames: a host word or a start slot of h's is kept
    between_turn : (c : Class) → class_of w ≡ c → Between p q → spaced false (c ∷ cs) ≡ true
        → Turn (marks h false (c ∷ cs)) cs (after M p w) q (after M q w)
    unfolding Related marks spaced
    between_turn (slot (Level b)) r x g =
        let y = U.wait_level p.state w b r x.rests.waits n in
        let d = ap (λ (d : ℕ). latest d (M.answer p.state w)) x.rests.released ∙ y.2 in
        struck between g
        record { rests = record { waits = y.0; released = d }; kept_rests = x.kept_rests; same = y.1 ∙ x.same }
    between_turn (slot Start) r x g = start_turn (framed h cs) refl r x g
    between_turn (slot Idle) r x g =
        let k = U.wait_idle p.state w r x.rests.waits ∙ x.same in
        struck between g record { rests = idle_rests p w r n'; kept_rests = x.kept_rests; same = k }
    between_turn stray r x g = struck between g (rw (stray_stays p w r) x)
    between_turn host r x g =
        let y = host_kept r x.kept_rests x.same in
        taken between g record { rests = host_rests p w r n' x.rests; kept_rests = y.0; same = y.1 }

    -- a word in a frame of another's: a host word is kept, and no start slot comes
    other_turn : (c : Class) → class_of w ≡ c → Other (levels (c ∷ cs)) p q → spaced true (c ∷ cs) ≡ true
        → M.locked p.state ≡ true → M.holder p.state ≡ h
        → Turn (marks h false (c ∷ cs)) cs (after M p w) q (after M q w)
    unfolding Related levels marks spaced
    other_turn (slot (Level b)) r x g l o =
        let y = U.calm_level p.state w b (levels cs) r x.calm l o n in
        struck other g record { calm = y.0; kept_rests = x.kept_rests; same = y.1 ∙ x.same }
    other_turn (slot Start) r x g l o = absurd (false≢true g)
    other_turn (slot Idle) r x g l o =
        let k = U.calm_idle p.state w r x.calm l o n ∙ x.same in
        struck between g record { rests = idle_rests p w r n'; kept_rests = x.kept_rests; same = k }
    other_turn stray r x g l o = struck other g (rw (stray_stays p w r) x)
    other_turn host r x g l o =
        let y = host_kept r x.kept_rests x.same in
        let k = U.calm_host p.state w (levels cs) r x.calm in
        taken other g record { calm = k; kept_rests = y.0; same = y.1 }

    -- a word in a frame of h's: every one is kept, idle closes the frame, and no start slot comes
    mine_turn : (c : Class) → class_of w ≡ c → p ≡ q → spaced true (c ∷ cs) ≡ true
        → Turn (marks h true (c ∷ cs)) cs (after M p w) q (after M q w)
    unfolding Related marks spaced
    mine_turn (slot (Level b)) r x g = taken mine g (ap (λ (z : Point M). after M z w) x)
    mine_turn (slot Start) r x g = absurd (false≢true g)
    mine_turn (slot Idle) r x g =
        let y = idle_rests p w r n' in
        taken between g (subst (λ (z : Point M). Between (after M p w) (after M z w)) x
        record { rests = y; kept_rests = y; same = refl })
    mine_turn stray r x g = taken mine g (ap (λ (z : Point M). after M z w) x)
    mine_turn host r x g = taken mine g (ap (λ (z : Point M). after M z w) x)

    -- a word, wherever the list stands
    turn : (m : Mode) (c : Class) → class_of w ≡ c → Related m (levels (c ∷ cs)) p q → spaced (busy m) (c ∷ cs) ≡ true
        → M.locked p.state ≡ true → M.holder p.state ≡ h
        → Turn (marks h (ours m) (c ∷ cs)) cs (after M p w) q (after M q w)
    unfolding Related
    turn between c r x g l o = between_turn c r x g
    turn other c r x g l o = other_turn c r x g l o
    turn mine c r x g l o = mine_turn c r x g

  -- ---- any number of words

  -- after i words of a list, with the marks ms: where it stands, and how its run is to its kept words' run
  record Spot (ms : List Bool) (ws : List ℕ) (p q : Point M) (i : ℕ) : Type 0 where
    mode : Mode
    mark : drop i ms ≡ marks h (ours mode) (map class_of (drop i ws))
    gap : spaced (busy mode) (map class_of (drop i ws)) ≡ true
    related : Related mode (levels (map class_of (drop i ws))) (goes M p (take i ws))
        (goes M q (take (count (take i ms)) (marked ms ws)))

  -- a word is put before the list, kept or not
  earlier : (m : Bool) (ms : List Bool) (w : ℕ) (ws : List ℕ) (p q : Point M) (i : ℕ)
      → Spot ms ws (after M p w) (pick m (after M q w) q) i → Spot (m ∷ ms) (w ∷ ws) p q (suc i)
  unfolding goes marked count
  earlier true ms w ws p q i z = record { mode = z.mode; mark = z.mark; gap = z.gap; related = z.related }
  earlier false ms w ws p q i z = record { mode = z.mode; mark = z.mark; gap = z.gap; related = z.related }

  -- as far as the comparison goes, a list's run and its kept words' run stay related
  place : (ws : List ℕ) (i : ℕ) (m : Mode) (p q : Point M) → Related m (levels (map class_of ws)) p q
      → spaced (busy m) (map class_of ws) ≡ true → U.bound p.state → Compared M p.state ws i
      → Spot (marks h (ours m) (map class_of ws)) ws p q i
  unfolding goes run marked count marks
  place ws zero m p q x g b c = record { mode = m; mark = refl; gap = g; related = x }
  place [] (suc i) m p q x g b c = record { mode = m; mark = refl; gap = g; related = x }
  place (w ∷ ws) (suc i) m p q x g b c =
      let n = c.unasked 0 (omega arith) in
      let n' = c.unasked 1 (omega arith) in
      let l = c.held 0 (omega arith) in
      let o = U.bound_names p.state b l in
      let y = turn p q w (map class_of ws) n n' m (class_of w) refl x g l o in
      let next = pick y.is_kept (after M q w) q in
      let b' = U.bound_word p.state w b l in
      let z = place ws i y.mode (after M p w) next y.related y.gap b' (onward M p.state w ws i c) in
      rw y.mark (earlier y.is_kept (marks h (ours y.mode) (map class_of ws)) w ws p q i z)

  -- ---- a kept word

  -- a host word, in every mode
  host_told : (w : ℕ) (p q : Point M) → class_of w ≡ host → U.keep p.state ≡ U.keep q.state
      → Told M host w (M.answer p.state w) p q
  host_told w p q r k = record { reply = (U.host_same p.state q.state w r k).1; drives = λ n. absurd (n refl) }

  -- a word that is kept, wherever the list stands: outside of h's frames that is a host word or a start slot
  told : (m : Mode) (bs : List Bool) (c : Class) (cs : List Class) (w : ℕ) (p q : Point M) → class_of w ≡ c
      → get_or (marks h (ours m) (c ∷ cs)) 0 false ≡ true → spaced (busy m) (c ∷ cs) ≡ true → Related m bs p q
      → M.requesting p.state ≡ false → Told M c w (M.answer p.state w) p q
  unfolding Related marks spaced shown
  told between bs (slot (Level b)) cs w p q r k g x n = absurd (false≢true k)
  told between bs (slot Start) cs w p q r k g x n =
      let y = U.start_same p.state q.state w r x.rests.waits x.kept_rests.waits x.same n in
      record { reply = y.1; drives = λ _. x.rests.released ∙ sym x.kept_rests.released }
  told between bs (slot Idle) cs w p q r k g x n = absurd (false≢true k)
  told between bs stray cs w p q r k g x n = absurd (false≢true k)
  told between bs host cs w p q r k g x n = host_told w p q r x.same
  told other bs (slot (Level b)) cs w p q r k g x n = absurd (false≢true k)
  told other bs (slot Start) cs w p q r k g x n = absurd (false≢true g)
  told other bs (slot Idle) cs w p q r k g x n = absurd (false≢true k)
  told other bs stray cs w p q r k g x n = absurd (false≢true k)
  told other bs host cs w p q r k g x n = host_told w p q r x.same
  told mine bs c cs w p q r k g x n =
      let y = ap (λ (z : Point M). shown c (M.answer z.state w)) x in
      record { reply = y; drives = λ _. ap (λ (z : Point M). z.drive) x }

  -- the first word of a list, if it is kept
  told_first : (m : Mode) (bs ms : List Bool) (ws : List ℕ) (p q : Point M) → ms ≡ marks h (ours m) (map class_of ws)
      → get_or ms 0 false ≡ true → spaced (busy m) (map class_of ws) ≡ true → Related m bs p q
      → M.requesting p.state ≡ false
      → Told M (class_of (get_or ws 0 0)) (get_or ws 0 0) (get_or (answers M p.state ws) 0 0) p q
  unfolding marks answers
  told_first m bs ms [] p q e k g x n = absurd (false≢true (rw e at k))
  told_first m bs ms (w ∷ ws) p q e k g x n =
      told m bs (class_of w) (map class_of ws) w p q refl (rw e at k) g x n

  -- ---- a whole list

  module _ (s : M.State) (A : List ℕ) (v : M.waiting s) (o : M.holder s ≡ h)
      (g : spaced false (map class_of A) ≡ true) (i : ℕ) where
    spot : Compared M s A i → Spot (keeps h A) A (begins M s) (begins M s) i
    unfolding keeps Related
    spot c =
        let x : Rests M (begins M s) = record { waits = v; released = refl } in
        let y : Between (begins M s) (begins M s) = record { rests = x; kept_rests = x; same = refl } in
        place A i between (begins M s) (begins M s) y g (U.bound_waiting s v o) c

    -- behind i words of the list it is kept as its kept words alone would leave it
    list_keep : Compared M s A i
        → U.keep (run M s (take i A)) ≡ U.keep (kept_to M h s A (count (take i (keeps h A)))).state
    unfolding kept
    list_keep c =
        let z = spot c in
        ap U.keep (sym (goes_state M (begins M s) (take i A))) ∙ related_keep z.mode _ _ _ z.related

    -- a kept word is answered as among the kept words alone, and in its slot is driven what is driven there
    list_told : Compared M s A (suc i) → get_or (keeps h A) i false ≡ true
        → Told M (class_of (get_or A i 0)) (get_or A i 0) (get_or (answers M s A) i 0) (goes M (begins M s) (take i A))
        (kept_to M h s A (count (take i (keeps h A))))
    unfolding kept
    list_told c k =
        let z = spot (shorter M s A (suc i) i (omega arith) c) in
        let e = goes_state M (begins M s) (take i A) in
        let n = ap M.requesting e ∙ c.unasked i (omega arith) in
        let k' = first_behind i (keeps h A) false ∙ k in
        let t = told_first z.mode _ (drop i (keeps h A)) (drop i A) _ _ z.mark k' z.gap z.related n in
        simp (← answers_behind M (begins M s) A i, first_behind) at t

-- ---- two lists

module _ (M : Machine) (h : ℕ) (U : Unwinding M h) (s : M.State) (A B : List ℕ) (given : Given M h s A B)
    (i j : ℕ) where
  -- behind equally many kept words the states are seen alike
  states_alike : Behind h A B i j → Compared M s A i → Compared M s B j
      → M.observed (run M s (take i A)) ≡ M.observed (run M s (take j B))
  states_alike n a b =
      let x = list_keep M h U s A given.waits given.names given.spaced_first i a in
      let y = list_keep M h U s B given.waits given.names given.spaced_second j b in
      U.sees (run M s (take i A)) (run M s (take j B)) (cc (x, y, n, given.same))

  -- at like places stands one word
  words_alike : Places h A B i j → get_or A i 0 ≡ get_or B j 0
  unfolding kept
  words_alike x =
      let y = marked_at (keeps h A) A i x.first in
      let z = marked_at (keeps h B) B j x.second in
      cc (y, z, x.behind, given.same)

  module _ (x : Places h A B i j) (a : Compared M s A (suc i)) (b : Compared M s B (suc j)) where
    -- its answers are alike
    replies_alike : shown (class_of (get_or A i 0)) (get_or (answers M s A) i 0)
        ≡ shown (class_of (get_or B j 0)) (get_or (answers M s B) j 0)
    replies_alike =
        let y = list_told M h U s A given.waits given.names given.spaced_first i a x.first in
        let z = list_told M h U s B given.waits given.names given.spaced_second j b x.second in
        cc (y.reply, z.reply, words_alike x, x.behind, given.same)

    -- and, of a slot, what is driven in it
    slots_alike : (class_of (get_or A i 0) ≡ host → ⊥)
        → driven drive_released (take i (answers M s A)) ≡ driven drive_released (take j (answers M s B))
    slots_alike n =
        let y = (list_told M h U s A given.waits given.names given.spaced_first i a x.first).drives n in
        let n' = rw (words_alike x) at n in
        let z = (list_told M h U s B given.waits given.names given.spaced_second j b x.second).drives n' in
        let d = goes_drive M (begins M s) A i in
        let e = goes_drive M (begins M s) B j in
        cc (y, z, d, e, x.behind, given.same)

-- a machine that meets the conditions at every h protects the holder of its lock
pub protected : (M : Machine) → ((h : ℕ) → Unwinding M h) → Protected M
unfolding Protected
protected M every h s A B given =
    record {
      states = states_alike M h (every h) s A B given;
      words = words_alike M h (every h) s A B given;
      replies = replies_alike M h (every h) s A B given;
      slots = slots_alike M h (every h) s A B given;
    }
