pub mod MailLaws
pub mod Mails
