-- Document 02, K3: "It compares the FB reply's stored length and CRC-32 with its image's first bytes, and asks for that offset, or for 0
-- if they differ." Assumes nothing.
use Rattle.std.specs.Prelude.{◌≡◌, ◌↔◌, List, ℕ, ◌≤◌, ◌<◌, length, take}
use Rattle.crc.specs.Crc.{checksum, crc32}
use Rattle.frames.specs.Buffer.{data_at}
use Rattle.replies.specs.ReplyFields.{fields_fb}
use Rattle.sender.specs.declared.phase.Phase.TheVariants.{Telling, Placing}
use Rattle.sender.specs.declared.sender.Sender.{Sender}
use Rattle.sender.specs.Replies.{after_reply}
use Rattle.sender.specs.Deciding.{OfferGranted}

-- the stored length and the CRC-32 are those of "its image's first bytes"
pub record FirstBytes (stored crc : ℕ) (image : List ℕ) : Type 0 where
  pub within : stored ≤ length image
  pub same : crc ≡ checksum crc32 (take stored image)

-- P holds of the place asked for: "that offset, or .. 0 if they differ"
pub record AsksFor (P : ℕ → Type 0) (stored crc : ℕ) (image : List ℕ) : Type 0 where
  pub that : FirstBytes stored crc image → P stored
  pub differ : (FirstBytes stored crc image → ⊥) → P 0

-- the place asked for after the FB reply b
pub record Resumed (image b : List ℕ) (place : ℕ) : Type 0 where
  pub asks : AsksFor (λ n. place ≡ n) (fields_fb (data_at b)).stored (fields_fb (data_at b)).crc image
  -- above 0 it is the stored length, and the CRC-32 is that of as many of the image's first bytes
  pub above : 0 < place → ((fields_fb (data_at b)).stored ≡ place) × FirstBytes place (fields_fb (data_at b)).crc image

-- The claim.
pub record Resumption : Type 0 where
  -- a reply moves a sender from telling to placing exactly when it is FB's 00
  pub moves : (s : Sender) (image b : List ℕ)
      → ((s.position.phase ≡ Telling) × ((after_reply s image b).next.position.phase ≡ Placing)) ↔ OfferGranted s image b
  -- and this is the place then asked for
  pub resumes : (s : Sender) (image b : List ℕ) → OfferGranted s image b → Resumed image b (after_reply s image b).next.position.place
