-- Which cause of a call comes first.
use Rattle.std.proofs.Common.{◌≡◌, ℕ, ◌*◌, ◌<◌, ◌≤◌, List, length, refl, arith}
use Rattle.refusal.specs.declared.Refusal.{Refusal}
use Rattle.refusal.specs.declared.Refusal.TheVariants.{VertexTooHigh, VerticesEqual, ListTooShort, NoFreePlace, CellPresent, TriangleTaken, NoSuchNumber}
use Rattle.refusal.specs.Numbers.{number_of}
use Rattle.refusal.specs.Causes.{First, NoCause}
use Rattle.rules.specs.Rows.{TooHigh, Repeated}
use Rattle.rules.specs.Joins.{OnSkin}
use Rattle.rules.specs.Listings.{Listing, Many}
use Rattle.rules.specs.PlainList.{Plain, StandsIn, CrowdedIn, LayCause, RowCause}
use Rattle.rules.specs.PlainList.LayCause.{high, equal, full, present, taken}
use Rattle.rules.specs.PlainList.RowCause.{absent}
use Rattle.rules.specs.Questions.{HalfCause, AtVertex, AtEdge, StarCause, EdgeStarCause, SkinCause}
use Rattle.rules.specs.Questions.HalfCause.{absent as no-half}
use Rattle.rules.specs.Questions.StarCause.{high as star-high, short as star-short}
use Rattle.rules.specs.Questions.EdgeStarCause.{high as edge-high, high_other as edge-high-other, equal as edge-equal, short as edge-short}
use Rattle.rules.specs.Questions.SkinCause.{short as skin-short}
use Rattle.rules.proofs.Listed.{listing_fits}

-- LAY

module _ (p : Plain) (x : List ℕ) where
  -- no cause with a number below m applies
  below : (m : ℕ) → (1 < m → TooHigh x → ⊥) → (2 < m → Repeated x → ⊥) → (11 < m → p.places ≤ length p.list → ⊥) → (12 < m → StandsIn p.list x → ⊥) → (13 < m → CrowdedIn p.list x → ⊥)
      → (d : Refusal) → number_of d < m → LayCause p x d → ⊥
  below m a b e f g _ l (high k) = a l k
  below m a b e f g _ l (equal k) = b l k
  below m a b e f g _ l (full k) = e l k
  below m a b e f g _ l (present k) = f l k
  below m a b e f g _ l (taken k) = g l k

  pub first_high : TooHigh x → First (LayCause p x) VertexTooHigh
  first_high h = record { applies = high h; none_before = below 1 (λ l. absurd (omega arith)) (λ l. absurd (omega arith)) (λ l. absurd (omega arith)) (λ l. absurd (omega arith)) (λ l. absurd (omega arith)) }

  pub first_equal : (TooHigh x → ⊥) → Repeated x → First (LayCause p x) VerticesEqual
  first_equal a h = record { applies = equal h; none_before = below 2 (λ l. a) (λ l. absurd (omega arith)) (λ l. absurd (omega arith)) (λ l. absurd (omega arith)) (λ l. absurd (omega arith)) }

  module _ (a : TooHigh x → ⊥) (b : Repeated x → ⊥) where
    pub first_full : p.places ≤ length p.list → First (LayCause p x) NoFreePlace
    first_full h = record { applies = full h; none_before = below 11 (λ l. a) (λ l. b) (λ l. absurd (omega arith)) (λ l. absurd (omega arith)) (λ l. absurd (omega arith)) }

    module _ (e : p.places ≤ length p.list → ⊥) where
      pub first_present : StandsIn p.list x → First (LayCause p x) CellPresent
      first_present h = record { applies = present h; none_before = below 12 (λ l. a) (λ l. b) (λ l. e) (λ l. absurd (omega arith)) (λ l. absurd (omega arith)) }

      pub first_taken : (StandsIn p.list x → ⊥) → CrowdedIn p.list x → First (LayCause p x) TriangleTaken
      first_taken f h = record { applies = taken h; none_before = below 13 (λ l. a) (λ l. b) (λ l. e) (λ l. f) (λ l. absurd (omega arith)) }

      pub no_cause : (StandsIn p.list x → ⊥) → (CrowdedIn p.list x → ⊥) → NoCause (LayCause p x)
      no_cause f g _ (high k) = a k
      no_cause f g _ (equal k) = b k
      no_cause f g _ (full k) = e k
      no_cause f g _ (present k) = f k
      no_cause f g _ (taken k) = g k

-- ONE ROW, ONE HALF-FACE

pub first_no_row : (p : Plain) (t : ℕ) → length p.list ≤ t → First (RowCause p t) NoSuchNumber
first_no_row p t h = record { applies = absent h; none_before = before }
  where
    before : (d : Refusal) → number_of d < 14 → RowCause p t d → ⊥
    before _ l (absent k) = omega arith

pub no_row_cause : (p : Plain) (t : ℕ) → t < length p.list → NoCause (RowCause p t)
no_row_cause p t n _ (absent k) = omega arith

pub first_no_half : (rs : List (List ℕ)) (h : ℕ) → 4 * length rs ≤ h → First (HalfCause rs h) NoSuchNumber
first_no_half rs h p = record { applies = no-half p; none_before = before }
  where
    before : (d : Refusal) → number_of d < 14 → HalfCause rs h d → ⊥
    before _ l (no-half k) = omega arith

pub no_half_cause : (rs : List (List ℕ)) (h : ℕ) → h < 4 * length rs → NoCause (HalfCause rs h)
no_half_cause rs h n _ (no-half k) = omega arith

-- LISTS: ks are the numbers to be listed, and n places are handed over

too_many : (P : ℕ → Type 0) (n m : ℕ) (ks : List ℕ) → Listing P ks → length ks ≤ n → Many P m → n < m → ⊥
too_many P n m ks a l w q = omega (arith, w.2, listing_fits P w.0 ks w.1 a)

module _ (rs : List (List ℕ)) (v n : ℕ) where
  pub star_first_high : 4095 < v → First (StarCause rs v n) VertexTooHigh
  star_first_high h = record { applies = star-high h; none_before = before }
    where
      before : (d : Refusal) → number_of d < 1 → StarCause rs v n d → ⊥
      before _ l (star-high k) = omega arith
      before _ l (star-short m k) = omega arith

  module _ (ks : List ℕ) (low : v ≤ 4095) (a : Listing (AtVertex rs v) ks) where
    pub star_first_short : n < length ks → First (StarCause rs v n) ListTooShort
    star_first_short q = record { applies = star-short (ks, a, refl) q; none_before = before }
      where
        before : (d : Refusal) → number_of d < 3 → StarCause rs v n d → ⊥
        before _ l (star-high k) = omega arith
        before _ l (star-short m k) = omega arith

    pub no_star_cause : length ks ≤ n → NoCause (StarCause rs v n)
    no_star_cause l _ (star-high k) = omega arith
    no_star_cause l _ (star-short m k) = too_many (AtVertex rs v) n _ ks a l m k

module _ (rs : List (List ℕ)) (v w n : ℕ) where
  edge_below : (m : ℕ) → (1 < m → 4095 < v → ⊥) → (1 < m → 4095 < w → ⊥) → (2 < m → v ≡ w → ⊥) → m ≤ 3 → (d : Refusal) → number_of d < m → EdgeStarCause rs v w n d → ⊥
  edge_below m a b e l _ q (edge-high k) = a q k
  edge_below m a b e l _ q (edge-high-other k) = b q k
  edge_below m a b e l _ q (edge-equal k) = e q k
  edge_below m a b e l _ q (edge-short z k) = omega arith

  pub edge_first_high : 4095 < v → First (EdgeStarCause rs v w n) VertexTooHigh
  edge_first_high h = record { applies = edge-high h; none_before = edge_below 1 (λ l. absurd (omega arith)) (λ l. absurd (omega arith)) (λ l. absurd (omega arith)) (omega arith) }

  pub edge_first_high_other : 4095 < w → First (EdgeStarCause rs v w n) VertexTooHigh
  edge_first_high_other h = record { applies = edge-high-other h; none_before = edge_below 1 (λ l. absurd (omega arith)) (λ l. absurd (omega arith)) (λ l. absurd (omega arith)) (omega arith) }

  module _ (low : v ≤ 4095) (low-other : w ≤ 4095) where
    pub edge_first_equal : v ≡ w → First (EdgeStarCause rs v w n) VerticesEqual
    edge_first_equal h = record { applies = edge-equal h; none_before = edge_below 2 (λ l k. omega arith) (λ l k. omega arith) (λ l. absurd (omega arith)) (omega arith) }

    module _ (ks : List ℕ) (ne : v ≡ w → ⊥) (a : Listing (AtEdge rs v w) ks) where
      pub edge_first_short : n < length ks → First (EdgeStarCause rs v w n) ListTooShort
      edge_first_short q = record { applies = edge-short (ks, a, refl) q; none_before = edge_below 3 (λ l k. omega arith) (λ l k. omega arith) (λ l. ne) (omega arith) }

      pub no_edge_cause : length ks ≤ n → NoCause (EdgeStarCause rs v w n)
      no_edge_cause l _ (edge-high k) = omega arith
      no_edge_cause l _ (edge-high-other k) = omega arith
      no_edge_cause l _ (edge-equal k) = ne k
      no_edge_cause l _ (edge-short m k) = too_many (AtEdge rs v w) n _ ks a l m k

module _ (rs : List (List ℕ)) (n : ℕ) (ks : List ℕ) (a : Listing (OnSkin rs) ks) where
  pub skin_first_short : n < length ks → First (SkinCause rs n) ListTooShort
  skin_first_short q = record { applies = skin-short (ks, a, refl) q; none_before = before }
    where
      before : (d : Refusal) → number_of d < 3 → SkinCause rs n d → ⊥
      before _ l (skin-short m k) = omega arith

  pub no_skin_cause : length ks ≤ n → NoCause (SkinCause rs n)
  no_skin_cause l _ (skin-short m k) = too_many (OnSkin rs) n _ ks a l m k
