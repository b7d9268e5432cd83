-- A window's bytes, faults and answers, from those of the memory below.
use Rattle.std.proofs.Common.{◌≡◌, ℕ, ◌+◌, ◌-◌, ◌^◌, ◌<◌, ◌≤◌, min, cond, ltb, List, length, get_or, take, drop, set, Ok, Err, sym, ap, ◌∙◌, ⊎_elim, arith, length-drop, length-set, length-take, get_or-drop, get_or-take}
use lib.Seq.{take-set-lt, drop-set-add}
use Rattle.std.proofs.lemmas.List.{set_past}
use Rattle.std.proofs.lemmas.Bool.Decides.{nat_tests}
use Rattle.std.proofs.lemmas.Bool.{lt-ltb, le-ltb, cases_lt}
use Rattle.memory.specs.Answers.{read_answer, put_answer, handed_up}
use Rattle.memory.specs.Faults.{raised, own_fault}
use Rattle.memory.specs.Layouts.{most, window_bytes, window_fault, put_below, lowered_answer}
use Rattle.memory.specs.declared.fault.MemoryFault.{MemoryFault}
use Rattle.memory.proofs.Answering.{read_within, read_past, put_within, put_past}

module _ (a n : ℕ) (xs : List ℕ) where
  pub length_window : length (window_bytes a n xs) ≡ min n (length xs - a)
  length_window = length-take n (drop a xs) ∙ ap (min n) (length-drop a xs)

  module _ (f : ℕ → MemoryFault) (p : ℕ) where
    fault_own : n ≤ p → own_fault (length (window_bytes a n xs)) p ≡ window_fault a n xs f p
    fault_own h = rw (le-ltb p n h)

    fault_raised : p < n → raised (f (min (a + p) most)) ≡ window_fault a n xs f p
    fault_raised h = rw (lt-ltb p n h)

  module _ (p : ℕ) where
    get_or_window : p < n → get_or xs (a + p) 0 ≡ get_or (window_bytes a n xs) p 0
    get_or_window h = sym (get_or-take n (drop a xs) p 0 h ∙ get_or-drop a xs p 0)

    -- the position below stops at the last one, which no memory has
    reached : length xs < 2 ^ 32 → min (a + p) most < length xs → min (a + p) most ≡ a + p
    reached short h = omega arith

    put_below_own : (b : ℕ) → n ≤ p → xs ≡ put_below a n xs p b
    put_below_own b h = rw (le-ltb p n h)

    put_below_passed : (b : ℕ) → p < n → set xs (min (a + p) most) b ≡ put_below a n xs p b
    put_below_passed b h = rw (lt-ltb p n h)

    window_unmoved : (b : ℕ) → length (window_bytes a n xs) ≤ p → window_bytes a n xs ≡ set (window_bytes a n xs) p b
    window_unmoved b h = sym (set_past (window_bytes a n xs) p b h)

    window_set : (b : ℕ) → p < n → length xs < 2 ^ 32 → window_bytes a n (set xs (min (a + p) most) b) ≡ set (window_bytes a n xs) p b
    window_set b h short =
        ⊎_elim
        (λ inside. ap (λ i. window_bytes a n (set xs i b)) (reached short inside) ∙ ap (take n) (drop-set-add a xs p b) ∙ take-set-lt n (drop a xs) p b h)
        (λ past. ap (window_bytes a n) (set_past xs (min (a + p) most) b past) ∙ window_unmoved b (omega (arith, length_window)))
        (cases_lt (min (a + p) most) (length xs))

  -- the memory below after b was put at the window's position p
  module _ (p b : ℕ) (ys : List ℕ) (short : length xs < 2 ^ 32) (after : ys ≡ put_below a n xs p b) where
    pub window_put : window_bytes a n ys ≡ set (window_bytes a n xs) p b
    window_put =
        ap (window_bytes a n) after
        ∙ ⊎_elim
        (λ h. ap (window_bytes a n) (sym (put_below_passed p b h)) ∙ window_set p b h short)
        (λ h. ap (window_bytes a n) (sym (put_below_own p b h)) ∙ window_unmoved p b (omega (arith, length_window)))
        (cases_lt p n)

    -- the faults hang on the window's length alone
    pub window_fault_put : (f g : ℕ → MemoryFault) → g ≡ f → window_fault a n ys g ≡ window_fault a n xs f
    window_fault_put f g same =
        ap (window_fault a n ys) same
        ∙ ap {B = ℕ → MemoryFault} (λ size q. cond (ltb q n) (raised (f (min (a + q) most))) (own_fault size q))
        (ap length window_put ∙ length-set (window_bytes a n xs) p b)

  -- what the window answers, from where its position goes and from what the memory below answers there
  module _ (f : ℕ → MemoryFault) (p : ℕ) where
    lowered_to : (s : ℕ) → Ok s ≡ lowered_answer a n xs p → (p < n) × (s ≡ min (a + p) most)
    lowered_to s e = grind (arith, nat_tests)

    refused_by_window : (e : MemoryFault) → Err e ≡ lowered_answer a n xs p → (n ≤ p) × (e ≡ own_fault (length (window_bytes a n xs)) p)
    refused_by_window e q = grind (arith, nat_tests)

    pub read_refused : (e : MemoryFault) → Err e ≡ lowered_answer a n xs p → Err e ≡ read_answer (window_bytes a n xs) (window_fault a n xs f) p
    read_refused e q =
        let k = refused_by_window e q in
        read_past (window_bytes a n xs) (window_fault a n xs f) p e (omega (arith, length_window)) (k.1 ∙ fault_own f p k.0)

    pub put_refused : (e : MemoryFault) → Err e ≡ lowered_answer a n xs p → Err e ≡ put_answer (window_bytes a n xs) (window_fault a n xs f) p
    put_refused e q =
        let k = refused_by_window e q in
        put_past (window_bytes a n xs) (window_fault a n xs f) p e (omega (arith, length_window)) (k.1 ∙ fault_own f p k.0)

    pub unmoved_refused : (b : ℕ) (e : MemoryFault) → Err e ≡ lowered_answer a n xs p → xs ≡ put_below a n xs p b
    unmoved_refused b e q = put_below_own p b (refused_by_window e q).0

    module _ (s : ℕ) (short : length xs < 2 ^ 32) (lower : Ok s ≡ lowered_answer a n xs p) where
      -- below the size, the byte is the window's; past it, so is the fault
      inside : s < length xs → (p < length (window_bytes a n xs)) × (get_or xs s 0 ≡ get_or (window_bytes a n xs) p 0)
      inside h =
          let l = lowered_to s lower in
          (omega (arith, length_window), ap (λ i. get_or xs i 0) (omega arith) ∙ get_or_window p l.0)

      past : length xs ≤ s → (length (window_bytes a n xs) ≤ p) × (raised (f s) ≡ window_fault a n xs f p)
      past h =
          let l = lowered_to s lower in
          (omega (arith, length_window), ap (λ i. raised (f i)) l.1 ∙ fault_raised f p l.0)

      pub read_passed : handed_up (read_answer xs f s) ≡ read_answer (window_bytes a n xs) (window_fault a n xs f) p
      read_passed =
          ⊎_elim
          (λ h. rw (lt-ltb s (length xs) h) (read_within (window_bytes a n xs) (window_fault a n xs f) p (get_or xs s 0) (inside h).0 (inside h).1))
          (λ h. rw (le-ltb s (length xs) h) (read_past (window_bytes a n xs) (window_fault a n xs f) p (raised (f s)) (past h).0 (past h).1))
          (cases_lt s (length xs))

      pub put_passed : handed_up (put_answer xs f s) ≡ put_answer (window_bytes a n xs) (window_fault a n xs f) p
      put_passed =
          ⊎_elim
          (λ h. rw (lt-ltb s (length xs) h) (put_within (window_bytes a n xs) (window_fault a n xs f) p (inside h).0))
          (λ h. rw (le-ltb s (length xs) h) (put_past (window_bytes a n xs) (window_fault a n xs f) p (raised (f s)) (past h).0 (past h).1))
          (cases_lt s (length xs))

      pub moved_passed : (b : ℕ) → set xs s b ≡ put_below a n xs p b
      moved_passed b = let l = lowered_to s lower in ap (λ i. set xs i b) l.1 ∙ put_below_passed p b l.0
