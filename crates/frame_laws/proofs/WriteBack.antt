-- What is read is written back: sections, frames and StatusResponses.
-- Assumes nothing.
use Rattle.frame_laws.specs.WriteBack.{SectionsWriteBack}
use Rattle.frame_laws.proofs.FrameAgain.{frame_again, frame_held}
use Rattle.frame_laws.proofs.Plain.{section_plain, status_plain}
use Rattle.frame_laws.proofs.SectionAgain.{section_again}
use Rattle.frame_laws.proofs.StatusAgain.{status_again}

pub sections_write_back : SectionsWriteBack
sections_write_back =
    record {
      sections = section_again;
      frames = frame_again;
      held = frame_held;
      statuses = status_again;
      plain_sections = section_plain;
      plain_statuses = status_plain;
    }
